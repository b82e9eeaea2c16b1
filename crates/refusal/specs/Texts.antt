-- How refusals are printed.
use Rattle.std.specs.Prelude.{ℕ, List, ◌++◌, codes, decimal, unwrap_or}
use Rattle.refusal.specs.declared.place.Place.{Place}
use Rattle.refusal.specs.declared.place.Place.TheVariants.{Nowhere, At, Three}
use Rattle.refusal.specs.declared.script.Refusal.{Refusal}
use Rattle.refusal.specs.Numbers.{number_of, layer_of, place_of, name_of}

-- a place is 0, a number, or three numbers joined by commas
abbrev pub place_text : Place → List ℕ
place_text Nowhere = codes "0"
place_text (At i) = decimal i
place_text (Three i j k) = decimal i ++ (codes "," ++ (decimal j ++ (codes "," ++ decimal k)))

-- `refused NUMBER LAYER PLACE LINE`
abbrev pub refused_words : ℕ → List ℕ → List ℕ → ℕ → List ℕ
refused_words number layer place line = codes "refused " ++ (decimal number ++ (codes " " ++ (layer ++ (codes " " ++ (place ++ (codes " " ++ decimal line))))))

-- the words of a refusal, with 0 where it has no line
abbrev pub refusal_words : Refusal → List ℕ
refusal_words r = refused_words (number_of r.cause) (name_of (layer_of r.cause)) (place_text (place_of r.cause)) (unwrap_or r.line 0)
