-- `not_below_norm` meets its contract: the parts fit 16 bits, and nothing overflows.
use mathlib.Core.Path.{◌≡◌, sym, ◌∙◌, ap, ap₂}
use mathlib.Core.Bool.{not}
use Prim.Native.Nat.{ℕ, ◌+◌, ◌*◌, ◌≤◌, ◌<◌}
use native.Mathlib.Omega.{arith}
use native.Mathlib.Decide.{dec_lt}
use native.Mathlib.Nat.{mul-le-mul}
use borrow.Author.Tests.{lt-ltb, le-ltb, le-leb, lt-leb}
use lib.Dec.{lit<, ltb, leb}
use lib.IntN.{ℤ}
use mir.Syntax.{w16}
use Rattle.integers.proofs.Machine.{narrow_fits, narrow_read}
use Rattle.eisenstein.specs.Values.{value, norm}
use Rattle.eisenstein.proofs.Limits.{within}
use Rattle.parameters.proofs.not_below_norm.Goals as goal
use Rattle.parameters.proofs.not_below_norm.Goals.{Start}

-- 2s + t, and its square's bound
abbrev width : Start → ℕ
width c = 2 * c.args.s + c.args.t

square : (c : Start) → width c * width c ≤ 3072 * 3072
square c = let h : width c ≤ 3072 = omega (arith, c.requires.0, c.requires.1) in mul-le-mul h h

not_less : (m n : ℕ) → leb n m ≡ not (ltb m n)
not_less m n = go (dec_lt m n)
  where
    go : Dec (m < n) → leb n m ≡ not (ltb m n)
    go (yes h) = lt-leb n m h ∙ sym (ap not (lt-ltb m n h))
    go (no h) = let k : n ≤ m = omega arith in le-leb n m k ∙ sym (ap not (le-ltb m n k))

pub overflow_cast-c : goal.overflow_cast-c
overflow_cast-c c = narrow_fits c.ranges.c (within 4095 _ c.requires.2).0 (lit< tt)

pub overflow_cast-d : goal.overflow_cast-d
overflow_cast-d c = narrow_fits c.ranges.d (within 4095 _ c.requires.2).1 (lit< tt)

pub returns : goal.returns
returns c = let s = c.before in
    let k = within 4095 (value s.args.c s.args.d) s.requires.2 in
    ap (λ (n : ℕ). leb n (4 * (width s * width s))) (c.norm-norm.ensures ∙ ap₂ (λ (u v : ℤ). norm (value u v)) (narrow_read w16 s.ranges.c k.0 (lit< tt)) (narrow_read w16 s.ranges.d k.1 (lit< tt)))
    ∙ not_less (4 * (width s * width s)) (norm (value s.args.c s.args.d))
