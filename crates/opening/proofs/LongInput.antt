-- Two files have at most 20,512 bytes, so what follows the first 20,513 bytes of an input plays no part in its line.
use mathlib.Core.Path.{◌≡◌, sym, ◌∙◌, ap}
use mathlib.Core.Bool.{◌&&◌}
use mathlib.Core.List.{List, ◌++◌, append_assoc}
use Prim.Native.Nat.{ℕ, ◌≤◌, ◌<◌}
use native.Mathlib.Omega.{arith}
use borrow.Author.Tests.{ne_eqb}
use lib.Dec.{eqb}
use lib.ListN.{length, take, drop, length-drop, length-append, take-append-drop}
use lib.Seq.{take-take, length-take-le, take-append-le, drop-append-le}
use Rattle.refusals.specs.Outcomes.{Check, refused, outcome}
use Rattle.refusals.proofs.Checks.{fails_refused, same_first}
use Rattle.parameters.specs.Sets.{parameter_checks}
use Rattle.parameters.proofs.AcceptedParameters.{accepted_parameters}
use Rattle.heads.specs.Kinds.{arrays_of}
use Rattle.heads.specs.Heads.{head_length, head_of}
use Rattle.files.specs.Files.{file_numbers, file_bytes, numbers_of}
use Rattle.head_reading.specs.Calls.{head_checks}
use Rattle.files.specs.Calls.{content_checks, reading_checks}
use Rattle.files.proofs.Passed.{file_bytes_lem}
use Rattle.files.proofs.Bounds.{numbers_few}
use Rattle.opened_files.proofs.FirstBytes.{head_of_start, checks_of_start}
use Rattle.lines.specs.Lines.{line_of}
use Rattle.opened_files.specs.Pairs.{first_length, file_checks, opening_pair, opening_files}
use Rattle.opening.specs.Program.{opening_line}
use Rattle.opening.specs.Promises.{LongInputLine}

-- ---- two files with the same head: they are refused alike, or N is at most 1,024 and the contents decide

contents : ℕ → List ℕ → List Check
contents kind file = content_checks kind (head_of file) (numbers_of file) (file_numbers kind (head_of file).N) (length file)

parts : (kind : ℕ) (file : List ℕ) (ds : List Check) → file_checks kind file ++ ds ≡ head_checks kind file ++ (parameter_checks (head_of file) ++ (contents kind file ++ ds))
unfolding file_checks reading_checks contents
parts kind file ds = simp append_assoc

same_head : (file file' : List ℕ) → take head_length file ≡ take head_length file' → head_of file ≡ head_of file'
same_head file file' e = sym (head_of_start file) ∙ ap head_of e ∙ head_of_start file'

same_starts : {A : Type 0} (kind : ℕ) (file file' : List ℕ) (ds ds' : List Check) (a a' : A) → take head_length file ≡ take head_length file' → ((head_of file).N ≤ 1024 → outcome (contents kind file ++ ds) a ≡ outcome (contents kind file' ++ ds') a') → outcome (file_checks kind file ++ ds) a ≡ outcome (file_checks kind file' ++ ds') a'
same_starts kind file file' ds ds' a a' e h =
    let k : head_checks kind file ≡ head_checks kind file' = sym (checks_of_start file kind) ∙ ap (head_checks kind) e ∙ checks_of_start file' kind in
    rw (parts kind file ds, parts kind file' ds', ← k, ← same_head file file' e)
    (same_first (head_checks kind file) _ _ a a' λ _.
    same_first (parameter_checks (head_of file)) _ _ a a' λ q. h (accepted_parameters (head_of file) q).N_small)

-- ---- a file that is longer than its head says, and what follows it

start : (front rest : List ℕ) → head_length ≤ length front → take head_length front ≡ take head_length (front ++ rest)
start front rest h = sym (take-append-le head_length front rest h)

too_long_lem : {A : Type 0} (file : List ℕ) (ds : List Check) (a : A) → 4112 < length file → (head_of file).N ≤ 1024 → outcome (contents 3 file ++ ds) a ≡ refused 7
unfolding contents content_checks file_bytes arrays_of
too_long_lem file ds a l s =
    let t = eqb (file_numbers 3 (head_of file).N) (file_numbers 3 (head_of file).N) in
    fails_refused 7 (eqb (length file) (file_bytes 3 (head_of file).N) && t) _ a
    (ap (◌&& t) (ne_eqb (length file) (file_bytes 3 (head_of file).N) λ e. omega arith))

same_second : {A : Type 0} (file rest : List ℕ) (ds ds' : List Check) (a a' : A) → 4112 < length file → outcome (file_checks 3 file ++ ds) a ≡ outcome (file_checks 3 (file ++ rest) ++ ds') a'
same_second file rest ds ds' a a' l =
    let e = start file rest (omega arith) in
    same_starts 3 file (file ++ rest) ds ds' a a' e λ s.
    too_long_lem file ds a l s
    ∙ sym (too_long_lem (file ++ rest) ds' a' (omega (arith, length-append file rest)) (rw (same_head file (file ++ rest) e) at s))

-- ---- the two files of an input, parted after n bytes

same-pair : (front rest : List ℕ) (n : ℕ) → 20513 ≤ length front → head_length ≤ n → ((head_of (take n front)).N ≤ 1024 → n ≤ 16400) → opening_pair (take n front) (drop n front) ≡ opening_pair (take n (front ++ rest)) (drop n (front ++ rest))
unfolding opening_pair
same-pair front rest n l h m =
    same_starts 2 (take n front) (take n (front ++ rest)) _ _ _ _ (take-take head_length n front h ∙ start front rest (omega arith) ∙ sym (take-take head_length n (front ++ rest) h)) λ s.
    rw (take-append-le n front rest (omega (arith, m s)), drop-append-le n front rest (omega (arith, m s)))
    (same_first (contents 2 (take n front)) _ _ _ _ λ _. same_second (drop n front) rest _ _ _ _ (omega (arith, m s, length-drop n front)))

same_files : (front rest : List ℕ) → 20513 ≤ length front → opening_files front ≡ opening_files (front ++ rest)
unfolding opening_files first_length
same_files front rest l =
    let n = file_bytes 2 (head_of front).N in
    let e : head_length ≤ n = omega (arith, file_bytes_lem 2 (head_of front).N) in
    rw (← same_head front (front ++ rest) (start front rest (omega arith)))
    (same-pair front rest n l e λ h. omega (arith, file_bytes_lem 2 (head_of front).N, numbers_few 2 (head_of front).N (rw (same_head (take n front) front (take-take head_length n front e)) at h)))

pub long_input_line : LongInputLine
unfolding opening_line
long_input_line input h =
    ap line_of (same_files (take 20513 input) (drop 20513 input) (omega (arith, length-take-le 20513 input h)) ∙ ap opening_files (take-append-drop 20513 input))
