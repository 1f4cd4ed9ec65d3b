-- Kind 5 is laid out like kind 3.
use mathlib.Core.Path.{refl}
use Rattle.refusals.proofs.Checks.{same_number}
use Rattle.heads.specs.Kinds.{arrays_of}
use Rattle.heads.specs.Heads.{bytes16, unsigned_at, signed_at, head_of, head_bytes}
use Rattle.head_reading.specs.Calls.{marked, version_one, head_checks, reading_head}
use Rattle.files.specs.Files.{file_numbers, file_bytes, file_of}
use Rattle.files.specs.Calls.{content_checks, reading_checks, reading, writing_checks, writing}
use Rattle.files.specs.Promises.{ShortReadLikeSealed, ShortWrittenLikeSealed}

pub short_read_like_sealed : ShortReadLikeSealed
unfolding reading_head reading reading_checks content_checks head_checks marked version_one head_of unsigned_at signed_at arrays_of file_numbers file_bytes
short_read_like_sealed b0 b1 b2 b3 b4 rest room = (refl, refl)

pub short_written_like_sealed : ShortWrittenLikeSealed
unfolding writing writing_checks content_checks file_of head_bytes bytes16 arrays_of file_numbers file_bytes
short_written_like_sealed p numbers room = (same_number (writing_checks 3 p numbers room) (file_of 5 p numbers) (file_of 3 p numbers), refl)
