-- What the bench answers to a meeting that the calculus allows: silent, or 16 or 17 with its cause.
use mathlib.Core.Path.{◌≡◌, refl, sym, ap, ap₂, ◌∙◌, subst, transport}
use mathlib.Core.Bool.{Bool, true, false, cond, false≢true}
use mathlib.Core.List.{List, [], ◌∷◌}
use mathlib.Core.Logic.{◌⊎◌, inl, inr, ⊎_elim}
use mathlib.Core.Option.{some}
use Prim.Native.Nat.{ℕ, zero, suc, ◌+◌, ◌<◌, ◌≤◌}
use native.Mathlib.Omega.{arith}
use borrow.Author.Tests.{leb-true, leb-false, ltb-true, ltb-false, eq-eqb}
use lib.Dec.{leb, ltb, eqb, T}
use lib.ListN.{length, get_elem?}
use Rattle.calculus.specs.Syntax.{Val, Vars, plain, comp, Proc, the_name, match, ren}
use Rattle.calculus.specs.Congruence.{◌≋◌}
use Rattle.calculus.specs.Transitions.{tau, joint, InstOk}
use Rattle.calculus.specs.Tree.{fill}
use Rattle.calculus.specs.Tree.{Item}
use Rattle.calculus.specs.Tree.{process}
use Rattle.calculus.specs.Named.{proc, shape, with_pat}
use Rattle.calculus.proofs.Definedness.{Sound as CSound}
use Rattle.model.specs.Basics.{◌&◌, Res, refuse, done, bind, need, choose, every, remove, has}
use Rattle.model.specs.Values.{Fit, matches, binders, extend, word, Env}
use Rattle.model.specs.Table.{Table, inp, term}
use Rattle.model.specs.Wrapper.{all_sides}
use Rattle.model.specs.Side.{Particle, output, input, Contents, Core, State, limits, side as side_in, Tag as STag, within, to_parent, from_parent, to_child, from_child}
use Rattle.model.specs.Unfolding.{defined, unfolds, tag_of, particles_in, boxes_in, new_names_in}
use Rattle.model.specs.Load.{Composition, wrapper_of, table}
use Rattle.model.specs.WellFormed.{counts, wf_particle, wf_value, env_at, shelf_of, ready}
use Rattle.model.specs.Step.{short, Step, Moved, silent, labelled, refusal, Result, settled, local, inner, meet, meet_particles, meet_term, tags_fit, without, with_contents, with_particles, step, known}
use Rattle.model.specs.Process.{Mark, part, site_of, val_of, pat_of, code_of, env_of, tag_out, conf_of, new_of}
use Rattle.model.specs.Agreement.{long, plainly, Says, says_tau, Met, Over, meet_full, Excused, by_16, by_17, answer_side, stays, parts_of}
use Rattle.calculus.proofs.Trees.{Reach}
use Rattle.calculus.proofs.NamedProcesses.{inst_defined}
use Rattle.calculus.proofs.Restriction.{RestrictInv}
use Rattle.calculus.proofs.Bags.{item, at, Bag, ritems}
use Rattle.model.proofs.Basics.Tests.{fst, snd, both, some_inj, length_gone, one_fails}
use Rattle.model.proofs.Formed.Counts.{Added, unfolds_adds}
use Rattle.model.proofs.Formed.MeetingKeeps.{every_without}
use Rattle.model.proofs.Formed.Invariant.{settled_is, core_short}
use Rattle.model.proofs.Processes.ItemFacts.{InputAt}
use Rattle.model.proofs.Basics.Splits.{get_pick, get_length}
use Rattle.model.proofs.Sound.ItemMoves.{forget, target}
use Rattle.model.proofs.Sound.SideViews.{View}
use Rattle.model.proofs.Sound.Substitutions.{name_word, tag_words}
use Rattle.model.proofs.Sound.BoxOrder.{Orient}
use Rattle.model.proofs.Sound.MeetTargets.{grown_cong}
use Rattle.model.proofs.Sound.MeetMoves.{differ, vals, fits_inp, v_items, lb, ι, B0, sound_in, sized', vals', bd, env'}
use Rattle.model.proofs.Complete.StateInversion.{rename_of}
use Rattle.model.proofs.Complete.MatchingBack.{MatchedBack, match_back}
use Rattle.model.proofs.Complete.DefinedBack.{env_back, sound_fits}
use Rattle.model.proofs.Complete.LongOutputs.{Lengths, env_lengths, short_unless_long}
use Rattle.model.proofs.Complete.Completing.{Answers}
use Rattle.model.proofs.Complete.SilentTargets.{silent_leads}
use Rattle.model.proofs.Processes.KnownNames.{known_all}

-- complementary tags fit
pub comp_fit : (ρ : Env) (τ : ℕ) (g : STag) → comp (tag_out (tag_of ρ τ)) ≡ tag_out g → tags_fit g (tag_of ρ τ) ≡ true
comp_fit ρ zero within e = refl
comp_fit ρ zero to_parent e = absurd (let z : ◌≡◌ {A = ℕ} 0 1 = cc in omega arith)
comp_fit ρ zero from_parent e = absurd (let z : ◌≡◌ {A = ℕ} 0 1 = cc in omega arith)
comp_fit ρ zero (to_child m) e = absurd (let z : ◌≡◌ {A = ℕ} 0 1 = cc in omega arith)
comp_fit ρ zero (from_child m) e = absurd (let z : ◌≡◌ {A = ℕ} 0 1 = cc in omega arith)
comp_fit ρ (suc zero) within e = absurd (let z : ◌≡◌ {A = ℕ} 0 1 = cc in omega arith)
comp_fit ρ (suc zero) to_parent e = absurd (let z : ◌≡◌ {A = ℕ} 0 1 = cc in omega arith)
comp_fit ρ (suc zero) from_parent e = refl
comp_fit ρ (suc zero) (to_child m) e = absurd (let z : ◌≡◌ {A = ℕ} 0 1 = cc in omega arith)
comp_fit ρ (suc zero) (from_child m) e = absurd (let z : ◌≡◌ {A = ℕ} 0 1 = cc in omega arith)
comp_fit ρ (suc (suc n)) within e = absurd (let z : ◌≡◌ {A = ℕ} 0 1 = cc in omega arith)
comp_fit ρ (suc (suc n)) to_parent e = absurd (let z : ◌≡◌ {A = ℕ} 0 1 = cc in omega arith)
comp_fit ρ (suc (suc n)) from_parent e = absurd (let z : ◌≡◌ {A = ℕ} 0 1 = cc in omega arith)
comp_fit ρ (suc (suc n)) (to_child m) e = absurd (let z : ◌≡◌ {A = ℕ} 0 1 = cc in omega arith)
comp_fit ρ (suc (suc n)) (from_child m) e = let q : word ρ n ≡ m = cc in eq-eqb m (word ρ n) (sym q)

-- how many particles a meeting leaves

length_without : (again : Bool) (l : List Particle) (i j : ℕ) → i < length l → j < length l → (i ≡ j → ⊥) → length (without again l i j) + 2 ≡ length l + stays again
length_without true l i j p q n = omega (arith, length_gone l i p)
length_without false l i j p q n = go (ltb i j) refl
  where
    go : (c : Bool) → ltb i j ≡ c → length (cond c (remove (remove l j) i) (remove (remove l i) j)) + 2 ≡ length l + 0
    go true e =
        let a = length_gone l j q in
        let lt = ltb-true i j e in
        let d = length_gone (remove l j) i (omega arith) in
        omega (arith, a, d)
    go false e =
        let a = length_gone l i p in
        let ge = ltb-false i j e in
        let d = length_gone (remove l i) j (omega (arith, n)) in
        omega (arith, a, d)

abbrev pub meet_step : (side i j : ℕ) → Step
meet_step side i j = record { kind = 5; side = side; i = i; j = j; words = [] }

is_T : (b : Bool) → b ≡ true → T b
is_T b e = subst T (sym e) tt

module _ (b : Composition) (s : State) (e : ready b s ≡ true) (vw : View b s) (ori : Orient b s vw)
    (own : (has vw.c.side all_sides ≡ true) × (vw.core.contents.minted ≡ (side_in s vw.c.side).core.contents.minted))
    (reach : (p : ℕ) → p < length vw.core.contents.boxes → Reach (conf_of b s).boxes (site_of vw.c.side p)) (ac : Answers b s vw) where
  abbrev side : ℕ
  side = vw.c.side

  abbrev Tb : Table
  Tb = vw.c.table

  abbrev parts : List Particle
  parts = vw.core.contents.particles

  module _ (i j β ch : ℕ) (g : STag) (v : List ℕ) (n : ℕ) (vs : List (List ℕ)) (gp : get_elem? vw.core.contents.particles i ≡ some (output β ch g v)) (gq : get_elem? vw.core.contents.particles j ≡ some (input β n vs))
      (node : InputAt vw.c.table n) (wp : wf_particle vw.c.table (counts s) (length vw.core.contents.boxes) (output β ch g v) ≡ true)
      (wq : wf_particle vw.c.table (counts s) (length vw.core.contents.boxes) (input β n vs) ≡ true)
      (σ : Vars (shape (pat_of node.pat)) → Val ℕ) (fits : match (shape (pat_of node.pat)) (val_of v) ≡ some σ) (ok : InstOk (B0 b s e vw ori own reach i j β ch g v n vs gp gq node wp wq) σ)
      (ec : the_name [] (env_of (env_at vw.c.table n vs) node.chan) ≡ ch) (et : comp (plain (ι b s e vw ori own reach i j β ch g v n vs gp gq node wp wq)) ≡ tag_out g) where
    abbrev ρ : Env
    ρ = env_at vw.c.table n vs

    -- 14 cannot be given
    pub mb : MatchedBack node.pat v σ
    mb = match_back node.pat v σ fits node.pat_ok (v_items b s e vw ori own reach i j β ch g v n vs gp gq node wp wq) node.differ

    abbrev pub ρ' : Env
    ρ' = extend (env_at vw.c.table n vs) (binders node.pat) mb.fit.bound

    sized_after : length ρ'.vals ≡ length ρ'.names
    sized_after = sized' b s e vw ori own reach i j β ch g v n vs gp gq node wp wq mb.fit mb.is

    vals_after : every (wf_value (counts s)) ρ'.vals ≡ true
    vals_after = vals' b s e vw ori own reach i j β ch g v n vs gp gq node wp wq mb.fit mb.is

    pub same_σ : (bd b s e vw ori own reach i j β ch g v n vs gp gq node wp wq mb.fit mb.is).σ ≡ σ
    same_σ = some_inj (sym (bd b s e vw ori own reach i j β ch g v n vs gp gq node wp wq mb.fit mb.is).is ∙ fits)

    env_after : env_of ρ' ≡ with_pat (pat_of node.pat) σ (env_of ρ)
    env_after = env' b s e vw ori own reach i j β ch g v n vs gp gq node wp wq mb.fit mb.is ∙ ap (λ (τ : Vars (shape (pat_of node.pat)) → Val ℕ). with_pat (pat_of node.pat) τ (env_of ρ)) same_σ

    -- 15 cannot
    ft : defined node.body ρ' ≡ true
    ft = sound_fits node.sits_body [] ρ' (env_of ρ') sized_after (env_back (counts s) ρ' vals_after)
        (subst (λ (π : ℕ → Val ℕ). CSound [] (code_of node.body) π) (sym env_after)
        (transport (inst_defined (part side j) (pat_of node.pat) (code_of node.body) (env_of ρ) σ (sound_in b s e vw ori own reach i j β ch g v n vs gp gq node wp wq)) ok))

    -- 13 cannot
    meets_there : eqb β β & (eqb ch (word ρ node.chan) & tags_fit g (tag_of ρ node.tag)) ≡ true
    meets_there =
        let f = fits_inp b s e vw ori own reach i j β ch g v n vs gp gq node wp wq in
        let vl = vals b s e vw ori own reach i j β ch g v n vs gp gq node wp wq in
        both _ _ (eq-eqb β β refl) (both _ _ (eq-eqb ch (word ρ node.chan) (sym ec ∙ name_word (counts s) ρ vl node.chan node.chan_ok (fst _ _ f)))
        (comp_fit ρ node.tag g (ap comp (sym (tag_words (counts s) ρ vl node.tag node.tag_ok (fst _ _ (snd _ _ f)))) ∙ et)))

    abbrev p0 : List Particle
    p0 = without node.again vw.core.contents.particles i j

    abbrev u : Contents
    u = unfolds vw.c.side node.body ρ' β (with_particles vw.core.contents p0)

    abbrev k : Core
    k = with_contents vw.core u

    abbrev m : Moved
    m = record { label = silent; val = []; core = k }

    at_term : meet_term vw.c vw.core i j β ch g v β ρ (inp n node.again node.chan node.tag node.pat node.body) ≡ done m
    unfolding meet_term need bind
    at_term =
        ap (λ (t : Bool). need t 13 (bind (matches node.pat 1 v) after-match)) meets_there
        ∙ ap (λ (r : Res Fit). bind r after-match) mb.is
        ∙ ap (λ (t : Bool). need t 15 (done m)) ft
      where
        after-match : Fit → Res Moved
        after-match f = need (defined node.body (extend ρ (binders node.pat) f.bound)) 15
            (done (record { label = silent; val = []; core = with_contents vw.core (unfolds vw.c.side node.body (extend ρ (binders node.pat) f.bound) β (with_particles vw.core.contents p0)) }))

    meets_so : local vw.c (known s) (shelf_of s) vw.core (meet_step vw.c.side i j) ≡ done m
    unfolding local inner choose need meet meet_particles
    meets_so = get_pick parts i _ (output β ch g v) gp ∙ get_pick parts j _ (input β n vs) gq ∙ ap (meet_term vw.c vw.core i j β ch g v β ρ) node.is ∙ at_term

    -- the particles and the table by the state's own names
    gp' : get_elem? (parts_of s vw.c.side) i ≡ some (output β ch g v)
    gp' = subst (λ (c : Core). get_elem? c.contents.particles i ≡ some (output β ch g v)) (sym ac.core_is) gp

    gq' : get_elem? (parts_of s vw.c.side) j ≡ some (input β n vs)
    gq' = subst (λ (c : Core). get_elem? c.contents.particles j ≡ some (input β n vs)) (sym ac.core_is) gq

    node' : term (table b vw.c.side) n ≡ inp n node.again node.chan node.tag node.pat node.body
    node' = ap (λ (t : Table). term t n) ac.table_is ∙ node.is

    -- 16 has its cause
    too_long : every short u.particles ≡ false → Excused b s (meet_step vw.c.side i j) tau 16
    too_long q = go (long (code_of node.body) (with_pat (pat_of node.pat) σ (env_of ρ))) refl
      where
        go : (c : Bool) → long (code_of node.body) (with_pat (pat_of node.pat) σ (env_of ρ)) ≡ c → Excused b s (meet_step vw.c.side i j) tau 16
        go true r = by_16 refl gp' gq' node' fits
            (is_T (long (code_of node.body) (with_pat (pat_of node.pat) σ (env_of (env_at (table b vw.c.side) n vs))))
            (ap (λ (t : Table). long (code_of node.body) (with_pat (pat_of node.pat) σ (env_of (env_at t n vs)))) ac.table_is ∙ r))
        go false r = absurd (false≢true
            (sym q ∙ short_unless_long node.sits_body ρ' (with_pat (pat_of node.pat) σ (env_of ρ)) sized_after (subst (Lengths ρ') env_after (env_lengths (counts s) ρ' vals_after)) vw.c.side β (with_particles vw.core.contents p0)
            (every_without short node.again parts i j (core_short vw.c (counts s) vw.core vw.ok)) r))

    -- 17 has its cause
    too_many : limits k ≡ false → Over b s (meet_step vw.c.side i j)
    unfolding limits
    too_many q = ⊎_elim
        (λ h. ⊎_elim (λ h. inside (inl (parts_over h))) (λ h. ⊎_elim (λ h. inside (inr (inl (boxes_over h)))) (λ h. inside (inr (inr (names_over h)))) (one_fails _ _ h)) (one_fails _ _ h))
        (λ h. ⊎_elim (λ h. let l = leb-false (length vw.core.lobby) 16 h in absurd (omega (arith, l, vw.ok.few_lobby)))
        (λ h. let l = leb-false (length vw.core.shelf) 32 h in absurd (omega (arith, l, vw.ok.few_shelf))) (one_fails _ _ h))
        (one_fails _ _ q)
      where
        ad : Added node.body (with_particles vw.core.contents p0) u
        ad = unfolds_adds vw.c.side node.body ρ' β (with_particles vw.core.contents p0)

        parts_over : leb (length u.particles) 32 ≡ false → 33 + 2 ≤ length parts + stays node.again + particles_in node.body
        parts_over h = let l = leb-false (length u.particles) 32 h in
            omega (arith, l, ad.particles, length_without node.again parts i j (get_length parts i (output β ch g v) gp) (get_length parts j (input β n vs) gq) (differ b s e vw ori own reach i j β ch g v β n vs gp gq))

        boxes_over : leb (length u.boxes) 16 ≡ false → 17 ≤ length vw.core.contents.boxes + boxes_in node.body
        boxes_over h = let l = leb-false (length u.boxes) 16 h in omega (arith, l, ad.boxes)

        names_over : leb u.minted 256 ≡ false → 257 ≤ vw.core.contents.minted + new_names_in node.body
        names_over h = let l = leb-false u.minted 256 h in omega (arith, l, ad.minted)

        inside : (33 + 2 ≤ length parts + stays node.again + particles_in node.body) ⊎
            ((17 ≤ length vw.core.contents.boxes + boxes_in node.body) ⊎ (257 ≤ vw.core.contents.minted + new_names_in node.body)) → Over b s (meet_step vw.c.side i j)
        inside h = meet_full refl gq' node'
            (subst (λ (c : Core). (33 + 2 ≤ length c.contents.particles + stays node.again + particles_in node.body) ⊎
            ((17 ≤ length c.contents.boxes + boxes_in node.body) ⊎ (257 ≤ c.contents.minted + new_names_in node.body))) (sym ac.core_is) h)

    module _ (R : Proc Mark []) (vv : RestrictInv (new_of b s) (known_all s) (fill (conf_of b s).boxes (at (conf_of b s).items)) R tau (joint (part vw.c.side i) (part vw.c.side j)))
        (J : List (Item Mark)) (nx : fill (conf_of b s).boxes (at J) ≋ vv.next)
        (bag : Bag (ritems forget J) (item (site_of vw.c.side β) (proc [] tt (code_of node.body) (env_of ρ')) ∷ target (wrapper_of b) vw.c.side vw.c.table vw.C vw.D vw.core vw.core.lobby p0)) where
      met_here : every short u.particles ≡ true → limits k ≡ true → Met (known_all s) b s tau R (meet_step vw.c.side i j)
      unfolding limits
      met_here sh li = record {
        names = rename_of vv;
        label = subst (λ (r : Result). Says (wrapper_of b) r.answer tau) (sym there) says_tau;
        side = ap (λ (r : Result). answer_side r.answer) there;
        target = subst (λ (t : State). plainly (ren {r = []} R vv.perm.to) ≋ plainly (process (conf_of b t))) (sym (ap (λ (r : Result). r.after) there))
            (silent_leads b s e vv J nx
            (item (site_of vw.c.side β) (proc [] tt (code_of node.body) (env_of ρ')) ∷ target (wrapper_of b) vw.c.side vw.c.table vw.C vw.D vw.core vw.core.lobby p0) bag (vw.next k vw.left)
            (grown_cong b s e vw ori own [] tt (λ k. refl) node.sits_body ρ' refl sized_after vals_after ft β (lb b s e vw ori own reach i j β ch g v n vs gp gq node wp wq) p0
            (every_without (wf_particle Tb (counts s) (length vw.core.contents.boxes)) node.again parts i j vw.ok.contents.particles) (leb-true u.minted 256 (snd _ _ (snd _ _ (fst _ _ li))))));
      }
        where
          there : step b s (meet_step vw.c.side i j) ≡ record { answer = labelled silent vw.c.side []; after = vw.next k vw.left }
          there = ac.is_done_lem (meet_step vw.c.side i j) m refl (settled_is _ m (record { is = meets_so; short_outputs = sh; few = li }))

      refused : (c : ℕ) → settled (done m) ≡ refuse c → (step b s (meet_step vw.c.side i j)).answer ≡ refusal c vw.c.side
      refused c q = ac.is_refused_lem (meet_step vw.c.side i j) c refl (ap settled meets_so ∙ q)

      -- the answer, by the two tests
      pub answered : Met (known_all s) b s tau R (meet_step vw.c.side i j) ⊎ ((c : ℕ) × ((step b s (meet_step vw.c.side i j)).answer ≡ refusal c vw.c.side) × Excused b s (meet_step vw.c.side i j) tau c)
      unfolding settled bind need
      answered = go (every short u.particles) refl (limits k) refl
        where
          go : (x : Bool) → every short u.particles ≡ x → (y : Bool) → limits k ≡ y →
              Met (known_all s) b s tau R (meet_step vw.c.side i j) ⊎ ((c : ℕ) × ((step b s (meet_step vw.c.side i j)).answer ≡ refusal c vw.c.side) × Excused b s (meet_step vw.c.side i j) tau c)
          go true p true q = inl (met_here p q)
          go true p false q = inr (17, refused 17 (ap₂ (λ (x y : Bool). need x 16 (need y 17 (done m))) p q), by_17 (too_many q))
          go false p y q = inr (16, refused 16 (ap (λ (x : Bool). need x 16 (need (limits k) 17 (done m))) p), too_long p)
