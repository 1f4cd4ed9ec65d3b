-- `write_bytes` meets its contract.
use mathlib.Core.Path.{◌≡◌, sym, ◌∙◌, ap, subst}
use native.Mathlib.Omega.{arith}
use borrow.Author.Rules.{rules}
use lib.IntN.{ℤ}
use lib.Seq.{sets-eq}
use mir.Syntax.{w16, w32}
use mir.Val.{SFits, to_z, of_z}
use mir.Facts.{to_z-of_z}
use Rattle.parameters.specs.Sets.{set_of}
use Rattle.heads.specs.Heads.{bytes16, bits16, head_bytes}
use Rattle.heads.specs.Kinds.{number_of_kind}
use Rattle.heads.proofs.PartsFit.{PartsFit, parts_fit}
use Rattle.head_writing.proofs.writing.write_bytes.Goals as goal
use Rattle.head_writing.proofs.writing.write_bytes.Goals.{Start}

c_read : (s : Start) → to_z w32 (of_z w32 s.args.p.parameters.c) ≡ s.args.p.parameters.c
c_read s = to_z-of_z {w = w32} (search rules)

d_read : (s : Start) → to_z w32 (of_z w32 s.args.p.parameters.d) ≡ s.args.p.parameters.d
d_read s = to_z-of_z {w = w32} (search rules)

fit : (s : Start) → PartsFit (set_of s.args.p.parameters)
fit s = parts_fit (set_of s.args.p.parameters) s.args.p.passes

-- a part of q as it is handed on
c_handed : (s : Start) → to_z w16 (of_z w16 (to_z w32 (of_z w32 s.args.p.parameters.c))) ≡ s.args.p.parameters.c
c_handed s = ap (λ (z : ℤ). to_z w16 (of_z w16 z)) (c_read s) ∙ to_z-of_z (fit s).c_fits

d_handed : (s : Start) → to_z w16 (of_z w16 (to_z w32 (of_z w32 s.args.p.parameters.d))) ≡ s.args.p.parameters.d
d_handed s = ap (λ (z : ℤ). to_z w16 (of_z w16 z)) (d_read s) ∙ to_z-of_z (fit s).d_fits

pub overflow_cast-c : goal.overflow_cast-c
overflow_cast-c c = let s = (goal.at.overflow_cast-c c).Start in subst (SFits w16) (sym (c_read s)) (fit s).c_fits

pub overflow_cast-d : goal.overflow_cast-d
overflow_cast-d c = let s = (goal.at.overflow_cast-d c).Start in subst (SFits w16) (sym (d_read s)) (fit s).d_fits

pub write_number-requires : goal.write_number-requires
write_number-requires c = ((fit (goal.at.write_number-requires c).Start).N_fits, omega arith)

pub write_number-requires-4 : goal.write_number-requires-4
write_number-requires-4 c = ((fit (goal.at.write_number-requires-4 c).Start).s_fits, omega arith)

pub write_number-requires-5 : goal.write_number-requires-5
write_number-requires-5 c = ((fit (goal.at.write_number-requires-5 c).Start).t_fits, omega arith)

-- the stores are a run from byte 0 on
pub returns : goal.returns
unfolding head_bytes bytes16
returns c =
    let s = (goal.at.returns c).Start in
    let bits_c : c.bits_of.result ≡ bits16 c.args.p.parameters.c = c.bits_of.ensures.0 ∙ ap bits16 (c_handed s) in
    let bits_d : c.bits_of-2.result ≡ bits16 c.args.p.parameters.d = c.bits_of-2.ensures.0 ∙ ap bits16 (d_handed s) in
    rw (c.write_number-5.ensures, c.write_number-4.ensures, c.write_number-3.ensures, c.write_number-2.ensures, c.write_number.ensures, c.write_mark.ensures, bits_c, bits_d)
    (sets-eq (head_bytes (number_of_kind c.args.kind) (set_of c.args.p.parameters)) c.args.file.now 0 c.requires)
