-- `try_from` meets its contract: what is none of the five numbers is no kind.
use Rattle.std.proofs.Common.{refl, arith}
use Rattle.heads.proofs.ArraysOfKinds.{no_kind}
use Rattle.heads.proofs.kinds.KindTryFromU32.try_from.Goals as goal

pub returns-in_default : goal.returns-in_default
returns-in_default c = (refl, no_kind c.args.number (omega arith) (omega arith) (omega arith) (omega arith) (omega arith))
