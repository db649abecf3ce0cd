-- What the names of a table, 0 to 63, stand for in an environment, as a list by names.
use Rattle.std.specs.Prelude.{◌≡◌, List, [], ℕ, ◌<◌, get_or}
use Rattle.model.specs.Values.{Env, value}
use Rattle.sides.specs.Layout.{places_of, view_place}

-- what is said of each of the first n places of e is what g says of the value in it
abbrev pub OfPlaces : {A : Type 0} → (ℕ → A → Type 0) → (List ℕ → A) → List ℕ → ℕ → Type 0
OfPlaces said g e n = (k : ℕ) (y : _) → k < n → said k y → y ≡ g (view_place (get_or (places_of e) k []))

-- the list has by each name what g says of the name's value; d is the entry past its end
abbrev pub OfNames : {A : Type 0} → List A → A → (List ℕ → A) → Env → Type 0
OfNames ts d g ρ = (m : ℕ) → m < 64 → get_or ts m d ≡ g (value ρ m)
