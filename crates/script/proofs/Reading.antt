-- One line more of a script.
use Rattle.std.proofs.Common.{◌≡◌, ◌≢◌, ℕ, suc, ◌+◌, ◌<◌, false, eqb, min, List, [], ◌∷◌, ◌++◌, length, get_or, take, drop, IsErrAnd, Ok, Err, Some, None, Option, Result, Bor, MatchOption, sym, refl, ap, ap₂, ◌∙◌, subst, arith, MatchResult, append_assoc, drop-cons, length-append}
use Rattle.std.specs.List.{All, IsFirstMatchOrLen}
use Rattle.std.specs.Option.{ok_or}
use Rattle.std.proofs.lemmas.Bool.{cond-true, lt-ltb, eqb-true}
use Rattle.std.proofs.lemmas.List.{at_drop_all, get_or_append_left, take-append-drop}
use Rattle.std.proofs.lemmas.List.Splits.{slice_split_at, slice_split_none, length-slice_split}
use Rattle.script.specs.declared.fault.Fault.{Fault}
use Rattle.script.specs.declared.fault.Fault.TheVariants.{Refused, Memory}
use Rattle.refusal.specs.declared.script.Cause.TheVariants.{Malformed}
use Rattle.refusal.specs.declared.script.Refusal.{Refusal}
use Rattle.refusal.specs.Numbers.{at_line}
use Rattle.fields.specs.Fields.{split, line_feed, Cut}
use Rattle.script.specs.Refusals.{Refuses, and_then}
use Rattle.script.specs.Sheets.{Sheet, line_read, lines_read}

-- the exit of a `?` that hands a fault on
pub handed : {T : Type 0} (r : Result T Fault) (f : Fault) (P : T → Type 0) (Q : Refusal → Type 0) → IsErrAnd r (λ y. y ≡ f) → Refuses f Q → MatchResult r P (λ y. Refuses y Q)
handed (Ok x) f P Q e q = absurd e
handed (Err y) f P Q e q = subst (λ z. Refuses z Q) (sym e) q

pub refuses_map : (f : Fault) (P Q : Refusal → Type 0) → ((e : Refusal) → P e → Q e) → Refuses f P → Refuses f Q
refuses_map (Refused e) P Q g p = g e p
refuses_map Memory P Q g p = tt

-- the pieces that `split_inclusive` gives: this one is the first of bs, and i is the place of its last byte, or past the end
module _ (bs line rest : List ℕ) (i : ℕ) (whole : bs ≡ line ++ rest) (long : length line ≡ min (i + 1) (length bs)) (first : IsFirstMatchOrLen (λ b. eqb b line_feed) bs i) where
  -- it ends in a line feed
  ended : (text : List ℕ) → line ≡ text ++ line_feed ∷ [] → Cut line_feed bs text rest
  ended text e =
      let parts : bs ≡ text ++ line_feed ∷ rest = whole ∙ ap (λ l. l ++ rest) e ∙ append_assoc text (line_feed ∷ []) rest in
      let none : All (λ x. eqb x line_feed ≡ false) text =
      λ k d h. rw (← get_or_append_left text (line_feed ∷ rest) d k h, ← parts) (first.0 k d (omega arith) (omega (arith, ap length e, length-append text (line_feed ∷ [])))) in
      let pieces : split line_feed bs ≡ text ∷ split line_feed rest = rw parts (slice_split_at _ text line_feed rest none refl) in
      record {
        pieces = pieces;
        more = omega (arith, ap length pieces, length-slice_split (λ b. eqb b line_feed) rest);
        shorter = omega (arith, ap length parts, length-append text (line_feed ∷ rest));
      }

  -- it does not, so it is all there is
  endless : ((front : List ℕ) → line ≢ front ++ line_feed ∷ []) → split line_feed bs ≡ bs ∷ []
  endless h =
      let past : i < length bs → ⊥ =
      λ q. let at : i < length line = omega arith in
      let byte : get_or line i line_feed ≡ line_feed = sym (ap (λ l. get_or l i line_feed) whole ∙ get_or_append_left line rest line_feed i at) ∙ eqb-true _ _ (first.1 q line_feed) in
      let last : drop i line ≡ line_feed ∷ [] = drop-cons line i line_feed at ∙ ap₂ (λ b l. b ∷ l) byte (at_drop_all (λ l. l) line (suc i) (omega arith)) in
      h (take i line) (sym (take-append-drop i line) ∙ ap (λ l. take i line ++ l) last) in
      slice_split_none _ bs (λ k d g. first.0 k d (omega arith) (omega (arith, past)))

-- a line that is not the last piece
lines_more : (s : Sheet) (k : ℕ) (t : List ℕ) (ps : List (List ℕ)) → 0 < length ps → lines_read s k (t ∷ ps) ≡ and_then (line_read s (suc k) t) (λ s'. lines_read s' (suc k) ps)
lines_more s k t [] h = absurd (omega arith)
lines_more s k t (p ∷ ps) h = refl

-- what `strip_suffix` leaves of the first piece is read as line n, and then the rest; a piece without an end is refused
abbrev pub ReadsOn : Sheet → ℕ → ℕ → List ℕ → List ℕ → Result (Bor (List ℕ)) Refusal → Type 0
ReadsOn s k n bs rest r =
    MatchResult r (λ x. (length rest < length bs) × (lines_read s k (split line_feed bs) ≡ and_then (line_read s n x.now) (λ s'. lines_read s' n (split line_feed rest)))) (λ e. lines_read s k (split line_feed bs) ≡ Err e)

module _ (s : Sheet) (k n : ℕ) (next : suc k ≡ n) (bs : List ℕ) where
  -- what is there has no end
  lines_end : 0 < length bs → split line_feed bs ≡ bs ∷ [] → lines_read s k (split line_feed bs) ≡ Err (at_line Malformed (Some n))
  lines_end h e = ap (lines_read s k) e ∙ cond-true _ _ _ (lt-ltb 0 (length bs) h) ∙ ap (λ m. Err (at_line Malformed (Some m))) next

  -- the line before the first line feed is read first
  lines_first : (front rest : List ℕ) → Cut line_feed bs front rest → lines_read s k (split line_feed bs) ≡ and_then (line_read s n front) (λ s'. lines_read s' n (split line_feed rest))
  lines_first front rest c =
      ap (lines_read s k) c.pieces ∙ lines_more s k front (split line_feed rest) (omega (arith, length-slice_split (λ b. eqb b line_feed) rest))
      ∙ ap (λ m. and_then (line_read s m front) (λ s'. lines_read s' m (split line_feed rest))) next

  module _ (line rest : List ℕ) (i : ℕ) (whole : bs ≡ line ++ rest) (some : 0 < length bs) (long : length line ≡ min (i + 1) (length bs)) (first : IsFirstMatchOrLen (λ b. eqb b line_feed) bs i) where
    pub reads_on : (o : Option (Bor (List ℕ))) (e : Refusal) → MatchOption o ((front : List ℕ) → line ≢ front ++ line_feed ∷ []) (λ x. line ≡ x.now ++ line_feed ∷ []) → e ≡ at_line Malformed (Some n) → ReadsOn s k n bs rest (ok_or o e)
    reads_on None e c told = lines_end some (endless bs line rest i whole long first c) ∙ ap Err (sym told)
    reads_on (Some x) e c told = let cut = ended bs line rest i whole long first x.now c in (cut.shorter, lines_first x.now rest cut)
