-- Up reads of its setting whether its side has a shelf, and nothing else.
use mathlib.Core.Path.{◌≡◌, refl, sym, ap, ◌∙◌}
use mathlib.Core.Bool.{Bool, true, false}
use mathlib.Core.List.{List, [], ◌∷◌}
use Prim.Native.Nat.{ℕ, zero, suc}
use Rattle.model.specs.Basics.{Res, need, pick}
use Rattle.model.specs.Side.{Core, Particle, output, input}
use Rattle.model.specs.Wrapper.{shelves}
use Rattle.model.specs.Load.{Setting}
use Rattle.model.specs.Step.{Moved, is_to_parent, up_from, up_particle, up}
use Rattle.steps.specs.Asked.{with_shelf}

pub shelf_is : (b : Bool) → shelves (with_shelf b).wrapper (with_shelf b).side ≡ b
shelf_is true = refl
shelf_is false = refl

-- a place picked, by what is made of each element
pub pick_same : {A B : Type 0} (l : List A) (i : ℕ) (f g : A → Res B) → ((x : A) → f x ≡ g x) → pick l i f ≡ pick l i g
unfolding pick
pick_same [] i f g e = refl
pick_same (x ∷ l) zero f g e = e x
pick_same (x ∷ l) (suc i) f g e = pick_same l i f g e

module _ (c d : Setting) (e : shelves c.wrapper c.side ≡ shelves d.wrapper d.side) (s : Core) (i : ℕ) where
  from_by : (b ch : ℕ) (v : List ℕ) → up_from c s i b ch v ≡ up_from d s i b ch v
  unfolding up_from
  from_by zero ch v = rw e
  from_by (suc b) ch v = refl

  particle_by : (p : Particle) → up_particle c s i p ≡ up_particle d s i p
  unfolding up_particle
  particle_by (output b ch g v) = ap (λ (r : Res Moved). need (is_to_parent g) 13 r) (from_by b ch v)
  particle_by (input b n vs) = refl

  pub up_by : up c s i ≡ up d s i
  unfolding up
  up_by = pick_same s.contents.particles i (up_particle c s i) (up_particle d s i) particle_by

-- up where the side has a shelf or none
pub up_with : (c : Setting) (b : Bool) → shelves c.wrapper c.side ≡ b → (s : Core) (i : ℕ) → up c s i ≡ up (with_shelf b) s i
up_with c b e s i = up_by c (with_shelf b) (e ∙ sym (shelf_is b)) s i
