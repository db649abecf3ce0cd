-- One law for each way that meet goes in the model.
use mathlib.Core.Path.{◌≡◌, ap, ap₂, ◌∙◌}
use mathlib.Core.Bool.{Bool, true, false, not}
use mathlib.Core.List.{List}
use mathlib.Core.Option.{some}
use Prim.Native.Nat.{ℕ, ◌+◌, ◌≤◌}
use borrow.Author.Tests.{leb-true}
use lib.Dec.{leb, eqb}
use lib.ListN.{length, get_elem?}
use Rattle.model.specs.Basics.{◌&◌, Res, refuse, done, bind, need, every, pick}
use Rattle.model.specs.Values.{Env, Fit, matches, binders, word, extend}
use Rattle.model.specs.Table.{Term, inp, term}
use Rattle.model.specs.Side.{Tag, Particle, output, input, Contents, Core, within_limits, limits}
use Rattle.model.specs.Unfolding.{tag_of, unfolds, defined, particles_in, boxes_in, new_names_in}
use Rattle.model.specs.Load.{Setting}
use Rattle.model.specs.WellFormed.{env_at}
use Rattle.model.specs.Step.{Moved, silently, with_contents, with_particles, tags_fit, without, meet_term, meet_particles, meet, short, settled}
use Rattle.model.proofs.Basics.Tests.{fst, snd}
use Rattle.model.proofs.Formed.Counts.{unfolds_adds}
use Rattle.model.proofs.Basics.Environments.{Sized}
use Rattle.model.proofs.Formed.MeetingKeeps.{every_without}
use Rattle.steps.proofs.Settling.{pick_past, pick_at, need_true, need_false, no_left, no_right, limits_in, settled_refused, settled_full, settled_within}
use Rattle.steps.proofs.CoreSteps.{quiet}
use Rattle.environments.specs.Long.{long_in}
use Rattle.unfolding.proofs.ShortAfter.{short_after, short_unfolds}

-- a result whose outputs are not all short
settled_long : (r : Res Moved) (m : Moved) → r ≡ done m → every short m.core.contents.particles ≡ false → settled r ≡ refuse 16
unfolding settled bind need
settled_long r m e p = rw (e, p)

module _ (c : Setting) (s : Core) (i j : ℕ) where
  pub meet_10 : length s.contents.particles ≤ i → settled (meet c s i j) ≡ refuse 10
  unfolding meet
  meet_10 h = settled_refused _ _ (pick_past s.contents.particles i _ h)

  meet_from : (p : Particle) → get_elem? s.contents.particles i ≡ some p → meet c s i j ≡ pick s.contents.particles j (λ q. meet_particles c s i j p q)
  unfolding meet
  meet_from p e = pick_at s.contents.particles i p (λ p. pick s.contents.particles j (λ q. meet_particles c s i j p q)) e

  pub meet_10_input : (p : Particle) → get_elem? s.contents.particles i ≡ some p → length s.contents.particles ≤ j → settled (meet c s i j) ≡ refuse 10
  meet_10_input p e h = settled_refused _ _ (meet_from p e ∙ pick_past s.contents.particles j _ h)

  pub meet_at : (p q : Particle) → get_elem? s.contents.particles i ≡ some p → get_elem? s.contents.particles j ≡ some q → meet c s i j ≡ meet_particles c s i j p q
  meet_at p q e f = meet_from p e ∙ pick_at s.contents.particles j q (λ q. meet_particles c s i j p q) f

  pub meet_13_no_output : (b n : ℕ) (vs : List (List ℕ)) (q : Particle) → get_elem? s.contents.particles i ≡ some (input b n vs) →
      get_elem? s.contents.particles j ≡ some q → settled (meet c s i j) ≡ refuse 13
  unfolding meet_particles
  meet_13_no_output b n vs q e f = settled_refused _ _ (meet_at (input b n vs) q e f)

  pub meet_13_no_input : (b ch : ℕ) (g : Tag) (v : List ℕ) (b' ch' : ℕ) (g' : Tag) (v' : List ℕ) → get_elem? s.contents.particles i ≡ some (output b ch g v) →
      get_elem? s.contents.particles j ≡ some (output b' ch' g' v') → settled (meet c s i j) ≡ refuse 13
  unfolding meet_particles
  meet_13_no_input b ch g v b' ch' g' v' e f = settled_refused _ _ (meet_at (output b ch g v) (output b' ch' g' v') e f)

  -- an output and the input at a node
  module _ (b ch : ℕ) (g : Tag) (v : List ℕ) (b' n : ℕ) (vs : List (List ℕ)) (n' : ℕ) (replicated : Bool) (c' g' : ℕ) (p : List ℕ) (a : Term) (e : term c.table n ≡ inp n' replicated c' g' p a) where
    abbrev ρ : Env
    ρ = env_at c.table n vs

    abbrev fits : Bool
    fits = eqb b b' & (eqb ch (word ρ c') & tags_fit g (tag_of ρ g'))

    abbrev inner : Fit → Env
    inner m = extend ρ (binders p) m.bound

    abbrev rest : Contents
    rest = with_particles s.contents (without replicated s.contents.particles i j)

    abbrev pub met_core : Fit → Core
    met_core m = with_contents s (unfolds c.side a (inner m) b rest)

    begun : meet_particles c s i j (output b ch g v) (input b' n vs) ≡ need fits 13 (bind (matches p 1 v) λ m. need (defined a (inner m)) 15 (silently (met_core m)))
    unfolding meet_particles meet_term
    begun = ap (meet_term c s i j b ch g v b' ρ) e

    pub meet_13 : fits ≡ false → settled (meet_particles c s i j (output b ch g v) (input b' n vs)) ≡ refuse 13
    meet_13 f = settled_refused _ _ (begun ∙ need_false _ _ _ f)

    pub meet_14 : fits ≡ true → matches p 1 v ≡ refuse 14 → settled (meet_particles c s i j (output b ch g v) (input b' n vs)) ≡ refuse 14
    unfolding bind
    meet_14 f m = settled_refused _ _ (begun ∙ need_true _ _ _ f ∙ ap (λ (r : Res Fit). bind r λ m. need (defined a (inner m)) 15 (silently (met_core m))) m)

    module _ (f : fits ≡ true) (m : Fit) (me : matches p 1 v ≡ done m) where
      matched : meet_particles c s i j (output b ch g v) (input b' n vs) ≡ need (defined a (inner m)) 15 (silently (met_core m))
      unfolding bind
      matched = begun ∙ need_true _ _ _ f ∙ ap (λ (r : Res Fit). bind r λ m. need (defined a (inner m)) 15 (silently (met_core m))) me

      pub meet_15 : defined a (inner m) ≡ false → settled (meet_particles c s i j (output b ch g v) (input b' n vs)) ≡ refuse 15
      meet_15 d = settled_refused _ _ (matched ∙ need_false _ _ _ d)

      module _ (d : defined a (inner m) ≡ true) (z : Sized (inner m)) where
        unfolded : meet_particles c s i j (output b ch g v) (input b' n vs) ≡ done (quiet (met_core m))
        unfolded = matched ∙ need_true _ _ _ d

        pub meet_16 : long_in a (inner m) ≡ true → settled (meet_particles c s i j (output b ch g v) (input b' n vs)) ≡ refuse 16
        meet_16 l = settled_long _ (quiet (met_core m)) unfolded (short_after c.side a (inner m) z b rest ∙ no_right _ _ (ap not l))

        module _ (l : long_in a (inner m) ≡ false) (sh : every short s.contents.particles ≡ true) (few : limits s ≡ true) where
          short_now : every short (unfolds c.side a (inner m) b rest).particles ≡ true
          short_now = short_unfolds c.side a (inner m) z b rest (every_without short replicated s.contents.particles i j sh) ∙ ap not l

          -- 17 by the counts
          abbrev room : ℕ → Bool
          room k = leb (k + particles_in a) 32 & (leb (length s.contents.boxes + boxes_in a) 16 & leb (s.contents.minted + new_names_in a) 256)

          room_is : (k : ℕ) → length (without replicated s.contents.particles i j) ≡ k → within_limits (unfolds c.side a (inner m) b rest) ≡ room k
          room_is k q =
              let ad = unfolds_adds c.side a (inner m) b rest in
              ap₂ ◌&◌ (ap (λ (x : ℕ). leb x 32) (ad.particles ∙ ap (λ (x : ℕ). x + particles_in a) q)) (ap₂ ◌&◌ (ap (λ (x : ℕ). leb x 16) ad.boxes) (ap (λ (x : ℕ). leb x 256) ad.minted))

          pub meet_17 : (k : ℕ) → length (without replicated s.contents.particles i j) ≡ k → room k ≡ false → settled (meet_particles c s i j (output b ch g v) (input b' n vs)) ≡ refuse 17
          unfolding limits
          meet_17 k q r = settled_full _ (quiet (met_core m)) unfolded short_now (no_left _ _ (room_is k q ∙ r))

          pub meet_done : (k : ℕ) → length (without replicated s.contents.particles i j) ≡ k → room k ≡ true →
              settled (meet_particles c s i j (output b ch g v) (input b' n vs)) ≡ done (quiet (met_core m))
          meet_done k q r =
              let w = limits_in s few in
              let y = room_is k q ∙ r in
              let u = unfolds c.side a (inner m) b rest in
              settled_within _ (quiet (met_core m)) unfolded short_now
              (record {
                particles = leb-true (length u.particles) 32 (fst _ _ y);
                boxes = leb-true (length u.boxes) 16 (fst _ _ (snd _ _ y));
                minted = leb-true u.minted 256 (snd _ _ (snd _ _ y));
                lobby = w.lobby;
                shelf = w.shelf;
              })
