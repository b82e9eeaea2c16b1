-- `try_fold` over a chain, where the closure answers an option.
use Rattle.std.proofs.Common.{◌≡◌, List, [], ◌∷◌, Some, None, Option, MatchOption, sym, refl, ap, ◌∙◌, subst}
use Rattle.std.specs.ControlFlow.{continue_value}
use Rattle.std.specs.Fn.{Called}
use Rattle.std.specs.Iterator.{AlwaysYields, TryFoldTurn, TryFoldsItems, Yields}
use Rattle.std.specs.List.{FoldsTo}
use Rattle.std.specs.declared.ops.ControlFlow.{ControlFlow}
use Rattle.std.specs.declared.ops.ControlFlow.TheVariants.{Continue, Break}
use Rattle.std.proofs.lemmas.Iterator.{YieldsList}
use denote.Param.Members.{Mut}
use Rattle.fields.specs.Fields.{then}

-- where `?` goes on at an option, and where it stops
abbrev pub On : {C E : Type 0} → Option C → ControlFlow E C → Type 0
On o b = o ≡ continue_value b

abbrev pub Stops : {C E : Type 0} → E → Option C → Type 0
Stops e o = o ≡ None

pub then_some : {A B C : Type 0} (o : Option A) (f : A → B) (g : B → Option C) → then o (λ x. g (f x)) ≡ then (then o (λ x. Some (f x))) g
then_some None f g = refl
then_some (Some x) f g = refl

module _ {S A B C F : Type 0} (E : Type 0) (steps : S → Option A → S → Type 0) (v : A → B) (g : Mut F (C × (A × Unit {0})) (Option C)) (f : F) (h : C → B → Option C) (own : C → List B → Option C) (none : (a : C) → own a [] ≡ Some a) (more : (a : C) (y : B) (ys : List B) → own a (y ∷ ys) ≡ then (h a y) (λ b. own b ys)) (gives : (a : C) (x : A) (o : Option C) (q : F) → Called g f (a, (x, tt)) o q → (q ≡ f) × (o ≡ h a (v x))) where
  walk : (s t u : S) (xs : List A) (all : List B) (o : Option A) (p q : F × C) (r : Option C) → p.0 ≡ f → Yields steps s xs t → steps t o u → FoldsTo (TryFoldTurn {E = E} g On) p xs q
      → MatchOption o (On {E = E} r (Continue q.1)) (λ x. (w : Option C) × (j : F) × (e : E) × Called g q.0 (q.1, (x, tt)) w j × On {E = E} w (Break e) × Stops e r)
      → AlwaysYields steps v s all → r ≡ own p.1 all
  walk s t u [] [] None p q r same y k folds end road = end ∙ ap (λ (z : F × C). Some z.1) (sym folds) ∙ sym (none p.1)
  walk s t u [] (b ∷ all) None p q r same y k folds end road = absurd (road.0 u (subst (λ z. steps z None u) (sym y) k))
  walk s t u [] [] (Some x) p q r same y k folds end road = absurd (road x u (subst (λ z. steps z (Some x) u) (sym y) k))
  walk s t u [] (b ∷ all) (Some x) p q r same y k folds end road =
      let turn = road.1 x u (subst (λ z. steps z (Some x) u) (sym y) k) in
      let (w, j, e, called, stopped, hands) = end in
      let at = subst (λ z. Called g z (p.1, (x, tt)) w j) same (subst (λ (z : F × C). Called g z.0 (z.1, (x, tt)) w j) (sym folds) called) in
      let stops : h p.1 b ≡ None = ap (h p.1) (sym turn.0) ∙ sym (gives p.1 x w j at).1 ∙ stopped in
      hands ∙ sym (more p.1 b all ∙ ap (λ z. then z (λ d. own d all)) stops)
  walk s t u (x ∷ xs) [] o p q r same y k folds end road = absurd (road x y.0 y.1)
  walk s t u (x ∷ xs) (b ∷ all) o p q r same y k folds end road =
      let turn = road.1 x y.0 y.1 in
      let (p', (w, called, goes), folds') = folds in
      let at = subst (λ z. Called g z (p.1, (x, tt)) w p'.0) same called in
      let told = gives p.1 x w p'.0 at in
      let on : h p.1 b ≡ Some p'.1 = ap (h p.1) (sym turn.0) ∙ sym told.1 ∙ goes in
      walk y.0 t u xs all o p' q r told.0 y.2 k folds' end turn.1 ∙ sym (more p.1 b all ∙ ap (λ z. then z (λ d. own d all)) on)

  pub try_fold_from_yields_List : {s : S} {all : List B} (init : C) (r : Option C) (u : S) → TryFoldsItems steps g (On {E = E}) Stops s f init r u → YieldsList steps v s all → r ≡ own init all
  try_fold_from_yields_List {s} {all} init r u ran road =
      let (xs, o, q, a, (t, y, k), folds, end) = ran in
      walk s t u xs all o (f, init) (q, a) r refl y k folds end road.runs
