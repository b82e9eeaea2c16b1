-- What the answer of a check tells of its refusal.
use Rattle.std.proofs.Common.{◌≡◌, Some, None, Ok, Err, Option, refl}
use Rattle.refusal.specs.declared.rule.RuleRefusal.{RuleRefusal}
use Rattle.adversary.specs.Refusals.{answered}

pub answered_ok : {X : Type 0} (x y : X) (o : Option RuleRefusal) → Ok y ≡ answered x o → (o ≡ None) × (y ≡ x)
answered_ok x y None e = (refl, cc)
answered_ok x y (Some r) e = absurd cc

pub answered_err : {X : Type 0} (x : X) (e : RuleRefusal) (o : Option RuleRefusal) → Err e ≡ answered x o → o ≡ Some e
answered_err x e None h = cc
answered_err x e (Some r) h = cc
