-- Laws of numbers behind tabs.
use mathlib.Core.Path.{◌≡◌, refl, sym, ◌∙◌, ap}
use mathlib.Core.List.{List, [], ◌∷◌, ◌++◌, append_assoc, append-nil}
use Prim.Native.Nat.{ℕ, ◌+◌, ◌<◌}
use native.Mathlib.Numerals.{add-one}
use lib.ListN.{length, take, get_or}
use lib.Seq.{take-suc}
use Rattle.format.specs.Lines.{tab}
use Rattle.format.specs.Output.{decimal, fields}

-- one number
pub one_field : (n : ℕ) → (tab ∷ []) ++ decimal n ≡ fields (n ∷ [])
one_field n = ap (λ (l : List ℕ). tab ∷ l) (sym (append-nil (decimal n)))

-- some numbers behind others
pub fields_joined : (xs ys : List ℕ) → fields xs ++ fields ys ≡ fields (xs ++ ys)
fields_joined [] ys = refl
fields_joined (x ∷ xs) ys = ap (λ (l : List ℕ). tab ∷ l) (append_assoc (decimal x) (fields xs) (fields ys) ∙ ap (λ (l : List ℕ). decimal x ++ l) (fields_joined xs ys))

-- one word more
pub fields_more : (words : List ℕ) (i n : ℕ) → n ≡ get_or words i 0 → i < length words → fields (take i words) ++ fields (n ∷ []) ≡ fields (take (i + 1) words)
fields_more words i n e h =
    let step : take i words ++ (n ∷ []) ≡ take (i + 1) words = rw (e, add-one, take-suc words i 0) in
    fields_joined (take i words) (n ∷ []) ∙ ap fields step
