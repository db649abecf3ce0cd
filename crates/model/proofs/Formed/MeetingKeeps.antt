-- Meet keeps its side well formed.
use mathlib.Core.Path.{◌≡◌, refl, sym, subst}
use mathlib.Core.Bool.{Bool, true, false, cond, false≢true}
use mathlib.Core.List.{List, [], ◌∷◌, ◌++◌}
use mathlib.Core.Logic.{⊎_elim}
use Prim.Native.Nat.{ℕ, ◌+◌, ◌*◌, ◌<◌, ◌≤◌}
use native.Mathlib.Omega.{arith}
use borrow.Author.Tests.{leb-true, ltb-true, eqb-true, le-leb, lt-ltb}
use lib.Dec.{ltb, eqb}
use lib.ListN.{length, length-append}
use Rattle.model.specs.Basics.{done, every, remove, has}
use Rattle.model.specs.Values.{is_minted, side_of, serial, items, is_pattern_leaf, is_value, Fit, matches, binders, extend, Env}
use Rattle.model.specs.Table.{Table, count, scope, term, Term, nil, par, box, new, out, inp}
use Rattle.model.specs.Side.{Tag, Particle, output, input, Contents, Core, limits}
use Rattle.model.specs.Unfolding.{unfolds, defined}
use Rattle.model.specs.Wrapper.{all_sides}
use Rattle.model.specs.Load.{Setting}
use Rattle.model.specs.WellFormed.{Counts, count_of, held, wf_value, wf_particle, env_at}
use Rattle.model.specs.Step.{short, Moved, without, with_particles, with_contents, silently, meet, meet_particles, meet_term}
use Rattle.model.proofs.Basics.Tests.{or_cases, fst, snd, both, alt_left, alt_right, every_append, every_mono, every_two, every_remove, need_done, bind_done, pick_done}
use Rattle.model.proofs.Basics.Names.{is_minted_lem, held_of}
use Rattle.model.proofs.Formed.Growing.{Le, CoreOk, wf_part_mono, wf_val_mono, wf_boxes_mono, core_mono}
use Rattle.model.proofs.Formed.Keeping.{Spoken, done_inj, roomy_of}
use Rattle.model.proofs.Basics.Items.{clash, shaped_items, matches_wf}
use Rattle.model.proofs.Basics.Checked.{Checked, Sits, s_inp, sits}
use Rattle.model.proofs.Formed.UnfoldingKeeps.{loose, tight, loosen, ContentsFit, grows, unfolds_fit}

-- a side's own count
abbrev pub mine : Setting → Counts → ℕ
mine c k = count_of k c.side

-- what a side's own step leaves: well formed for any counts that have grown to its own
pub record Kept' (c : Setting) (k : Counts) (s : Core) (m : Moved) : Type 0 where
  pub more : s.contents.minted ≤ m.core.contents.minted
  pub ok : (k' : Counts) → Le k k' → mine c k' ≡ m.core.contents.minted → CoreOk c k' m.core
  pub shelf : length s.shelf ≤ length m.core.shelf
  pub taken : m.core.taken ≡ s.taken
  pub said : Spoken c.wrapper.copies k m.label m.val

pub every_without : (f : Particle → Bool) (again : Bool) (l : List Particle) (i j : ℕ) → every f l ≡ true → every f (without again l i j) ≡ true
every_without f true l i j e = every_remove f l i e
every_without f false l i j e = go (ltb i j)
  where
    go : (b : Bool) → every f (cond b (remove (remove l j) i) (remove (remove l i) j)) ≡ true
    go true = every_remove f (remove l j) i (every_remove f l j e)
    go false = every_remove f (remove l i) j (every_remove f l i e)

-- a minted number, its side and its serial
pub minted_number_lem : (n j : ℕ) → has n all_sides ≡ true → j < 256 → (is_minted (65536 * n + j) ≡ true) × (side_of (65536 * n + j) ≡ n) × (serial (65536 * n + j) ≡ j) × (65536 * n + j < 4000000)
minted_number_lem n j h l = ⊎_elim (λ q. of-side-1 (eqb-true n 1 q)) (λ p. ⊎_elim (λ q. of_side_2 (eqb-true n 2 q)) (λ q. absurd (false≢true q)) (or_cases (eqb n 2) false p)) (or_cases (eqb n 1) (has n (2 ∷ [])) h)
  where
    of-side-1 : n ≡ 1 → (is_minted (65536 * n + j) ≡ true) × (side_of (65536 * n + j) ≡ n) × (serial (65536 * n + j) ≡ j) × (65536 * n + j < 4000000)
    of-side-1 e = rw e (alt_left _ _ (both _ _ (le-leb 65536 (65536 * 1 + j) (omega arith)) (le-leb (65536 * 1 + j) 65791 (omega arith))), omega arith, omega arith, omega arith)

    of_side_2 : n ≡ 2 → (is_minted (65536 * n + j) ≡ true) × (side_of (65536 * n + j) ≡ n) × (serial (65536 * n + j) ≡ j) × (65536 * n + j < 4000000)
    of_side_2 e = rw e (alt_right _ _ (both _ _ (le-leb 131072 (65536 * 2 + j) (omega arith)) (le-leb (65536 * 2 + j) 131327 (omega arith))), omega arith, omega arith, omega arith)

-- the names that a side mints next are held once it has minted them
pub fresh_held : (c : Setting) (k : Counts) → has c.side all_sides ≡ true → (N : ℕ) → mine c k ≡ N → N ≤ 256 → (j : ℕ) → j < N → (held k (65536 * c.side + j) ≡ true) × (65536 * c.side + j < 4000000)
fresh_held c k e N m l j h =
    let r = minted_number_lem c.side j e (omega arith) in
    (held_of k (65536 * c.side + j) (is_minted_lem (both _ _ r.0 (rw (r.1, r.2) (lt-ltb j (count_of k c.side) (omega (arith, m)))))), r.3)

record Body (t : Table) (σ p : List ℕ) (a : Term) : Type 0 where
  pat : items is_pattern_leaf 5 p 1 ≡ done []
  body : Sits t (σ ++ binders p) a

body_of : {t : Table} {σ : List ℕ} {n c g : ℕ} {r : Bool} {p : List ℕ} {a : Term} → Sits t σ (inp n r c g p a) → Body t σ p a
body_of (s_inp pc pg pp pd ln kn tm sc q) = record { pat = pp; body = q }

module _ (c : Setting) (k : Counts) (s : Core) (o : CoreOk c k s) (ch : Checked c.table) (which : has c.side all_sides ≡ true) where
  settled : (a : Term) (σ p : List ℕ) (vs : List (List ℕ)) (fit : Fit) (again : Bool) (i j b : ℕ) (v : List ℕ) → Body c.table σ p a → length vs ≡ length σ → every (wf_value k) vs ≡ true →
      wf_value k v ≡ true → b < length s.contents.boxes → matches p 1 v ≡ done fit → defined a (extend (record { names = σ; vals = vs }) (binders p) fit.bound) ≡ true →
      (m : Moved) → silently (with_contents s (unfolds c.side a (extend (record { names = σ; vals = vs }) (binders p) fit.bound) b (with_particles s.contents (without again s.contents.particles i j)))) ≡ done m →
      every short m.core.contents.particles ≡ true → limits m.core ≡ true → Kept' c k s m
  unfolding wf_value is_value
  settled a σ p vs fit again i j b v bd ln vv wv lb mt ft m e sh lim =
      let ρ : Env = extend (record { names = σ; vals = vs }) (binders p) fit.bound in
      let s₀ : Contents = with_particles s.contents (without again s.contents.particles i j) in
      let u : Contents = unfolds c.side a ρ b s₀ in
      let sh' : every short u.particles ≡ true = subst (λ (z : Moved). every short z.core.contents.particles ≡ true) (sym (done_inj e)) sh in
      let lim' : limits (with_contents s u) ≡ true = subst (λ (z : Moved). limits z.core ≡ true) (sym (done_inj e)) lim in
      let gr = grows c.side a ρ b s₀ in
      let few : u.minted ≤ 256 = leb-true u.minted 256 (snd _ _ (snd _ _ (roomy_of (with_contents s u) lim'))) in
      let fit : (k' : Counts) → Le k k' → mine c k' ≡ u.minted → ContentsFit c.table k' u = λ k' le mi.
      let wv' = wf_val_mono k k' le v wv in
      let mw = matches_wf k' p 1 v fit mt bd.pat (shaped_items v (snd _ _ (fst _ _ wv'))) (leb-true (length v) 16 (fst _ _ (fst _ _ wv'))) (snd _ _ wv') in
      unfolds_fit c.table k' c.side u.minted (λ n l. (fresh_held c k' which u.minted mi few n l).0) (λ n l. (fresh_held c k' which u.minted mi few n l).1)
      bd.body ρ refl (omega (arith, length-append vs fit.bound, length-append σ (binders p), mw.0)) (every_append (wf_value k') vs fit.bound (every_mono _ _ (wf_val_mono k k' le) vs vv) mw.1) ft b s₀ lb
      (record {
        boxes = wf_boxes_mono k k' le s.contents.boxes 0 o.contents.boxes;
        particles = every_without (loose c.table k' (length s.contents.boxes)) again s.contents.particles i j
            (every_mono _ _ (λ q h. loosen c.table k' (length s.contents.boxes) q (wf_part_mono k k' le c.table (length s.contents.boxes) (length s.contents.boxes) (omega arith) q h))
            s.contents.particles o.contents.particles);
      })
      (omega arith) in
      subst (λ (z : Moved). Kept' c k s z) (done_inj e)
      (record {
        more = gr.0;
        ok = λ k' le mi. (let f = fit k' le mi in let old = core_mono c k k' le s o in
            record {
              contents = record {
                few = roomy_of (with_contents s u) lim';
                box0 = omega (arith, gr.1, o.contents.box0);
                boxes = f.boxes;
                particles = every_two _ _ _ (tight c.table k' (length u.boxes)) u.particles f.particles sh';
              };
              few_lobby = old.few_lobby;
              lobby = old.lobby;
              few_shelf = old.few_shelf;
              shelf = old.shelf;
              whose = old.whose;
            });
        shelf = omega arith;
        taken = refl;
        said = refl;
      })

  met : (i j b ch' : ℕ) (g : Tag) (v : List ℕ) (b' n : ℕ) (vs : List (List ℕ)) → wf_particle c.table k (length s.contents.boxes) (output b ch' g v) ≡ true →
      wf_particle c.table k (length s.contents.boxes) (input b' n vs) ≡ true → (a : Term) → term c.table n ≡ a → (m : Moved) →
      meet_term c s i j b ch' g v b' (env_at c.table n vs) a ≡ done m → every short m.core.contents.particles ≡ true → limits m.core ≡ true → Kept' c k s m
  unfolding meet_term wf_particle
  met i j b ch' g v b' n vs h h' (nil _) q m e sh lim = absurd (clash e)
  met i j b ch' g v b' n vs h h' (par _ _ _) q m e sh lim = absurd (clash e)
  met i j b ch' g v b' n vs h h' (box _ _ _) q m e sh lim = absurd (clash e)
  met i j b ch' g v b' n vs h h' (new _ _ _) q m e sh lim = absurd (clash e)
  met i j b ch' g v b' n vs h h' (out _ _ _ _) q m e sh lim = absurd (clash e)
  met i j b ch' g v b' n vs h h' (inp n' again c' g' p a) q m e sh lim =
      let x = need_done _ _ _ _ e in
      let y = bind_done _ _ _ x.1 in
      let z = need_done _ _ _ _ y.2 in
      let inside = ltb-true n (count c.table) (fst _ _ (snd _ _ h')) in
      settled a (scope c.table n) p vs y.0 again i j b v (body_of (subst (λ (w : Term). Sits c.table (scope c.table n) w) q (sits c.table ch n inside)))
      (eqb-true (length vs) (length (scope c.table n)) (fst _ _ (snd _ _ (snd _ _ (snd _ _ h'))))) (fst _ _ (snd _ _ (snd _ _ (snd _ _ (snd _ _ h')))))
      (snd _ _ (snd _ _ (snd _ _ h))) (ltb-true b (length s.contents.boxes) (fst _ _ h)) y.1 z.0 m z.1 sh lim

  pub meet_keeps : (i j : ℕ) (m : Moved) → meet c s i j ≡ done m → every short m.core.contents.particles ≡ true → limits m.core ≡ true → Kept' c k s m
  unfolding meet meet_particles
  meet_keeps i j m e sh lim =
      let (p, f, g, l) = pick_done _ _ _ _ e in
      let (q, f', g', l') = pick_done _ _ _ _ f in
      go p q f' (g (wf_particle c.table k (length s.contents.boxes)) o.contents.particles) (g' (wf_particle c.table k (length s.contents.boxes)) o.contents.particles)
    where
      go : (p q : Particle) → meet_particles c s i j p q ≡ done m → wf_particle c.table k (length s.contents.boxes) p ≡ true → wf_particle c.table k (length s.contents.boxes) q ≡ true → Kept' c k s m
      go (output b c' g v) (input b' n vs) f h h' = met i j b c' g v b' n vs h h' (term c.table n) refl m f sh lim
      go (output b c' g v) (output b' c'' g' v') f h h' = absurd (clash f)
      go (input b n vs) q f h h' = absurd (clash f)
