-- What the walk is given and what it says. e is an environment in lent words, its first d names in force; l is a side's words.
use Rattle.std.specs.Prelude.{◌≡◌, true, false, List, [], ◌∷◌, ◌++◌, ℕ, ◌+◌, ◌<◌, ◌≤◌, length, take, drop}
use Rattle.model.specs.Basics.{every, or_else}
use Rattle.model.specs.Values.{Env, at, is_public, word, substitute}
use Rattle.model.specs.Table.{Table, field, Term, term}
use Rattle.model.specs.Side.{Particle, output, Contents}
use Rattle.model.specs.Unfolding.{tag_of, particles_in, boxes_in, new_names_in, unfolds}
use Rattle.sides.specs.declared.Rest.{Rest}
use Rattle.sides.specs.Layout.{places_of, fits_place, view_rows, fits_rows}
use Rattle.sides.specs.Environments.{env_of}
use Rattle.sides.specs.Sides.{contents_of}
use Rattle.environments.specs.Long.{long_in}
use Rattle.unfolding.specs.Scoped.{Scoped}
use Rattle.unfolding.specs.declared.Counts.{Counts}

-- one more particle, box, minted name
abbrev pub one_particle : Counts → Counts
one_particle c = record { particles = c.particles + 1; boxes = c.boxes; minted = c.minted }

abbrev pub one_box : Counts → Counts
one_box c = record { particles = c.particles; boxes = c.boxes + 1; minted = c.minted }

abbrev pub one_name : Counts → Counts
one_name c = record { particles = c.particles; boxes = c.boxes; minted = c.minted + 1 }

-- a side's rest with these counts
abbrev pub put_counts : Rest → Counts → Rest
put_counts o c = record { particles = c.particles; boxes = c.boxes; shelved = o.shelved; minted = c.minted; lobby = o.lobby; taken = o.taken }

-- what unfolding adds to: the counted particles and boxes of l, and the count of minted names
abbrev pub counted : List ℕ → Counts → Contents
counted l c = contents_of l c.particles c.boxes c.minted

-- the value that the output at node n sends, as the table has it
abbrev pub value_at : Table → ℕ → List ℕ
value_at t n = or_else (at is_public t.pool (field t n 3)) []

-- the output at node n, in box b
abbrev pub output_at : Table → ℕ → Env → ℕ → Particle
output_at t n ρ b = output b (word ρ (field t n 1)) (tag_of ρ (field t n 2)) (substitute ρ (value_at t n))

-- a particle more, in box b, has a row, and each value in force fits its place
pub record RowFree (b : ℕ) (e : List ℕ) (d : ℕ) (l : List ℕ) (c : Counts) : Type 0 where
  pub long : length l ≡ 5184
  pub free : c.particles < 32
  pub place : b ≤ 16
  pub width : length e ≡ 144
  pub few : d ≤ 8
  pub values : every fits_place (take d (places_of e)) ≡ true
  pub fits : fits_rows l c.particles ≡ true

-- m is l with the particle p behind the counted ones, and r counts it; the words behind the rows stay
pub record ParticleAdded (p : Particle) (l : List ℕ) (c : Counts) (m : List ℕ) (r : Counts) : Type 0 where
  pub counts : r ≡ one_particle c
  pub view : view_rows m (c.particles + 1) ≡ view_rows l c.particles ++ (p ∷ [])
  pub fits : fits_rows m (c.particles + 1) ≡ true
  pub behind : drop 4608 m ≡ drop 4608 l
  pub long : length m ≡ length l

-- the term at node n of a side's table can unfold in box b: no value is too long (16), and all that it adds has its place (17)
pub record CanUnfold (t : Table) (side n b : ℕ) (e : List ℕ) (d : ℕ) (l : List ℕ) (c : Counts) : Type 0 where
  pub narrow : side < 65536
  pub scoped : Scoped t n d
  pub short : long_in (term t n) (env_of e d) ≡ false
  pub particles : c.particles + particles_in (term t n) ≤ 32
  pub boxes : c.boxes + boxes_in (term t n) ≤ 16
  pub minted : c.minted + new_names_in (term t n) ≤ 256
  pub place : b ≤ 16
  pub long : length l ≡ 5184
  pub width : length e ≡ 144
  pub values : every fits_place (take d (places_of e)) ≡ true
  pub fits : fits_rows l c.particles ≡ true

-- m is l with what a term adds, and r counts it; the shelf stays, and so do, in f, the names in force and their values
pub record UnfoldedIs (side : ℕ) (a : Term) (b : ℕ) (e : List ℕ) (d : ℕ) (l : List ℕ) (c : Counts) (f m : List ℕ) (r : Counts) : Type 0 where
  pub view : counted m r ≡ unfolds side a (env_of e d) b (counted l c)
  pub fits : fits_rows m r.particles ≡ true
  pub particles : r.particles ≡ c.particles + particles_in a
  pub boxes : r.boxes ≡ c.boxes + boxes_in a
  pub minted : r.minted ≡ c.minted + new_names_in a
  pub shelf : drop 4640 m ≡ drop 4640 l
  pub long : length m ≡ length l
  pub names : take d f ≡ take d e
  pub places : take d (places_of f) ≡ take d (places_of e)
  pub width : length f ≡ length e
