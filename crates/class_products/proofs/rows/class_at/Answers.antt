-- `class_at` meets its contract.
use mir.Syntax.{w32}
use mathlib.Core.Path.{◌∙◌, ap₂}
use lib.IntN.{ℤ}
use mir.Facts.{to_z-of_z}
use Rattle.eisenstein.specs.Values.{value}
use Rattle.polynomials.specs.Polynomials.{coefficient}
use Rattle.classes.specs.Classes.{class_of}
use Rattle.class_products.proofs.rows.class_at.Goals as goal

pub returns : goal.returns
unfolding coefficient
returns c = let x = c.args.x.now in
    c.class_of.ensures
    ∙ ap₂ (λ (u v : ℤ). class_of (value u v)) (to_z-of_z {w = w32} (record { sfits = c.a-1.given })) (to_z-of_z {w = w32} (record { sfits = c.b-1.given }))
