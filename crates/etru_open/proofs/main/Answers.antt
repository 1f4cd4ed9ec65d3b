-- The line that is written out lies within its buffer.
use Rattle.std.proofs.Common.{rules, sym}
use Rattle.std.proofs.lemmas.List.{length-take-le}
use Rattle.opening.proofs.LineRoom.{line_within}
use Rattle.etru_open.proofs.main.Goals as goal

pub slice_bounds-line-end : goal.slice_bounds-line-end
slice_bounds-line-end c = line_within _ _ _ _ _ (search rules) (search rules) c.open_files.ensures.gives.1 c.open_files.ensures.gives_2.1

pub slice_bounds-write_all-end : goal.slice_bounds-write_all-end
slice_bounds-write_all-end c =
    sym
    (length-take-le _ _ (line_within _ _ _ _ _ (search rules) (search rules) c.open_files.ensures.gives.1 c.open_files.ensures.gives_2.1))
