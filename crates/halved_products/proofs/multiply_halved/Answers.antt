-- `multiply_halved` meets its contract.
use mathlib.Core.Path.{sym, ◌∙◌}
use Rattle.halved_products.proofs.Tested.{factors_of}
use Rattle.halved_products.proofs.multiply_halved.Goals as goal

pub multiply-requires : goal.multiply-requires
multiply-requires c =
    let f = factors_of c.args.n c.args.x.now c.args.y.now c.args.w.now (sym c.fit_for_halving.ensures ∙ c.if-not-fit_for_halving.false) in
    record { factors = f.0; halvable = f.1; halvable_2 = f.2 }
