-- Meet reads of its setting the side and the table, and nothing else.
use mathlib.Core.Path.{◌≡◌, refl, ap, ◌∙◌}
use mathlib.Core.List.{List}
use Prim.Native.Nat.{ℕ}
use Rattle.model.specs.Values.{Env}
use Rattle.model.specs.Table.{Table, Term, nil, par, box, new, out, inp, term}
use Rattle.model.specs.Side.{Tag, Particle, output, input, Core}
use Rattle.model.specs.Load.{Setting}
use Rattle.model.specs.WellFormed.{env_at}
use Rattle.model.specs.Basics.{pick}
use Rattle.model.specs.Step.{meet_term, meet_particles, meet}
use Rattle.steps.proofs.Settings.{pick_same}
use Rattle.meeting.specs.Meeting.{with_table}

module _ (c d : Setting) (side : c.side ≡ d.side) (tables : c.table ≡ d.table) (s : Core) (i j : ℕ) where
  term_by : (b ch : ℕ) (g : Tag) (v : List ℕ) (b' : ℕ) (ρ : Env) (a : Term) → meet_term c s i j b ch g v b' ρ a ≡ meet_term d s i j b ch g v b' ρ a
  unfolding meet_term
  term_by b ch g v b' ρ (nil n) = refl
  term_by b ch g v b' ρ (par n l r) = refl
  term_by b ch g v b' ρ (box n x a) = refl
  term_by b ch g v b' ρ (new n x a) = refl
  term_by b ch g v b' ρ (out n c' g' v') = refl
  term_by b ch g v b' ρ (inp n again c' g' p a) = rw side

  particles_by : (p q : Particle) → meet_particles c s i j p q ≡ meet_particles d s i j p q
  unfolding meet_particles
  particles_by (output b ch g v) (input b' n vs) =
      term_by b ch g v b' (env_at c.table n vs) (term c.table n) ∙
      ap (λ (t : Table). meet_term d s i j b ch g v b' (env_at t n vs) (term t n)) tables
  particles_by (output b ch g v) (output b' ch' g' v') = refl
  particles_by (input b n vs) p = refl

  pub meet_by : meet c s i j ≡ meet d s i j
  unfolding meet
  meet_by =
      let ps : List Particle = s.contents.particles in
      pick_same ps i (λ p. pick ps j (λ q. meet_particles c s i j p q)) (λ p. pick ps j (λ q. meet_particles d s i j p q))
      (λ p. pick_same ps j (meet_particles c s i j p) (meet_particles d s i j p) (particles_by p))

-- meet under any wrapper
pub meet_with : (c : Setting) (s : Core) (i j : ℕ) → meet c s i j ≡ meet (with_table c.side c.table) s i j
meet_with c s i j = meet_by c (with_table c.side c.table) refl refl s i j
