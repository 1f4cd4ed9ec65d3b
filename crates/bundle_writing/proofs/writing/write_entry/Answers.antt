-- `write_entry` meets its contract: the numbers are written behind the two bytes of the stop.
use mathlib.Core.Path.{◌≡◌, refl, ◌∙◌, ap}
use mathlib.Core.List.{List, ◌++◌}
use Prim.Native.Nat.{ℕ, ◌-◌, ◌*◌}
use native.Mathlib.Omega.{arith}
use lib.ListN.{length, take, drop, length-append, length-drop}
use Rattle.heads.specs.Heads.{bytes16}
use Rattle.heads.proofs.Numbers.{machine_bytes}
use Rattle.files.proofs.Lists.{rest_taken, put_behind}
use Rattle.stored_numbers.proofs.Lengths.{numbers_written}
use Rattle.bundles.specs.Bundles.{entry_bytes}
use Rattle.bundle_writing.proofs.writing.write_entry.Goals as goal

pub returns : goal.returns
unfolding entry_bytes bytes16
returns c =
    let out : List ℕ = c.args.out.now in
    let two : c.copy_from_slice.new.self ≡ bytes16 c.args.stop = c.copy_from_slice.ensures.after ∙ c.to_be_bytes.ensures ∙ machine_bytes (omega arith) in
    let stored : List ℕ = c.copy_from_slice.new.self ++ drop 2 out in
    let long : length c.copy_from_slice.new.self ≡ 2 = ap (λ (l : List ℕ). length l) two in
    let rest : List ℕ = take (length stored - 2) (drop 2 stored) in
    let room : length rest ≡ 2 * length c.args.array.now = ap (λ (l : List ℕ). length l) (rest_taken 2 stored)
    ∙ length-drop 2 stored
    ∙ omega (arith, length-append c.copy_from_slice.new.self (drop 2 out), long, length-drop 2 out, c.requires.0) in
    put_behind 2 (bytes16 c.args.stop) (drop 2 out) stored c.write_numbers.new.bytes refl (ap (λ (l : List ℕ). l ++ drop 2 out) two)
    ∙ ap (λ (l : List ℕ). bytes16 c.args.stop ++ l) (numbers_written c.args.array.now rest c.write_numbers.ensures room c.requires.1)
