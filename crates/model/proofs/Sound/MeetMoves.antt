-- The fifth kind of step: the meeting.
use mathlib.Core.Path.{◌≡◌, refl, sym, ap, ◌∙◌, subst, subst₂, transport}
use mathlib.Core.Bool.{Bool, true, false}
use mathlib.Core.List.{List, [], ◌∷◌}
use mathlib.Core.Option.{some}
use Prim.Native.Nat.{ℕ, ◌<◌, ◌≤◌}
use native.Mathlib.Omega.{arith}
use borrow.Author.Tests.{leb-true, ltb-true, eqb-true}
use lib.ListN.{length, length-append, get_elem?}
use Rattle.calculus.specs.Syntax.{Pat}
use Rattle.calculus.specs.Syntax.{Val, Proc, AllN, remark, Tag, plain, comp, ITag, iren, the_name, Vars}
use Rattle.calculus.specs.Syntax.{out as pout, inp as pinp, nil as pnil}
use Rattle.calculus.specs.Transitions.{In, Fn⊆, tau, send, recv, lone, joint, names, Out, inst, InstOk, beyond}
use Rattle.calculus.specs.Transitions.{Step as Trans}
use Rattle.calculus.specs.Tree.{Item}
use Rattle.calculus.specs.Named.{proc, shape, under_pat, with_pat}
use Rattle.calculus.proofs.Definedness.{Sound as CSound}
use Rattle.model.specs.Basics.{◌&◌, done, every, has}
use Rattle.model.specs.Values.{items, is_name, Fit, matches, binders, extend, word, Env, is_name_in, is_value}
use Rattle.model.specs.Table.{Table, Term, inp, term, scope}
use Rattle.model.specs.Side.{Particle, output, input, State, limits, side as side_in, Tag as STag}
use Rattle.model.specs.Unfolding.{defined, unfolds, tag_of, tag_defined, any_names}
use Rattle.model.specs.Wrapper.{all_sides}
use Rattle.model.specs.Load.{Composition, wrapper_of}
use Rattle.model.specs.WellFormed.{counts, wf_particle, wf_value, held_word, env_at, ready}
use Rattle.model.specs.Step.{Moved, silent, meet, meet_particles, meet_term, tags_fit, without, with_contents, with_particles}
use Rattle.model.specs.Process.{Mark, part, site_of, val_of, pat_of, code_of, env_of, itag_of, tag_out, mode_of, part_item, conf_of}
use Rattle.calculus.proofs.Parallels.{recv_of}
use Rattle.calculus.proofs.Inversion.{after as after_m}
use Rattle.calculus.proofs.NamedProcesses.{proc_inst, inst_defined}
use Rattle.calculus.proofs.Trees.{Reach}
use Rattle.calculus.proofs.Bags.{item}
use Rattle.model.proofs.Basics.Tests.{fst, snd, need_done, bind_done, every_append, get_every}
use Rattle.model.proofs.Formed.Keeping.{done_inj, roomy_of, at_limits}
use Rattle.model.proofs.Basics.Items.{clash, shaped_items, matches_wf}
use Rattle.model.proofs.Basics.Environments.{Sized}
use Rattle.model.proofs.Formed.MeetingKeeps.{every_without}
use Rattle.model.proofs.Processes.KnownNames.{All, held_in, low_in}
use Rattle.model.proofs.Processes.HandlerTerms.{fits_sound}
use Rattle.model.proofs.Processes.ItemFacts.{InputAt, part_in, input_sound, input_vals, input_node_lem, env_names, out_beyond}
use Rattle.model.proofs.Processes.StateTree.{remark_proc}
use Rattle.model.proofs.Basics.Splits.{pick_get}
use Rattle.model.proofs.Sound.ItemMoves.{ids, forget, Moves, whole, target}
use Rattle.model.proofs.Sound.StateMoves.{Goes, wf_all}
use Rattle.model.proofs.Sound.SideViews.{View}
use Rattle.model.proofs.Sound.SideSteps.{after, each_now}
use Rattle.model.proofs.Sound.Substitutions.{name_word, tag_words}
use Rattle.model.proofs.Sound.Matching.{Bound, bound, env_pat}
use Rattle.model.proofs.Sound.BoxOrder.{Orient}
use Rattle.model.proofs.Sound.ParticlePairs.{leaves, go_meet}
use Rattle.model.proofs.Sound.MeetTargets.{fit_comp, grown_goes}

-- an input's two ends, by mode
pub after_is : (again : Bool) (t : Mark) (x : ℕ) (ι : ITag ℕ) (p : Pat) (B : Proc Mark (p ∷ [])) (σ : Vars p → Val ℕ) → after_m (mode_of again) t x ι p B σ ≡ leaves again (pinp (mode_of again) t x ι p B) (inst B σ)
after_is true t x ι p B σ = refl
after_is false t x ι p B σ = refl

module _ (b : Composition) (s : State) (e : ready b s ≡ true) (vw : View b s) (ori : Orient b s vw)
    (own : (has vw.c.side all_sides ≡ true) × (vw.core.contents.minted ≡ (side_in s vw.c.side).core.contents.minted))
    (reach : (p : ℕ) → p < length vw.core.contents.boxes → Reach (conf_of b s).boxes (site_of vw.c.side p)) where
  abbrev side : ℕ
  side = vw.c.side

  abbrev Tb : Table
  Tb = vw.c.table

  abbrev nb : ℕ
  nb = length vw.core.contents.boxes

  abbrev A : List ℕ
  A = All b s

  zero_in : In (All b s) 0
  zero_in = low_in b s 0 (omega arith)

  pub differ : (i j β ch : ℕ) (g : STag) (v : List ℕ) (γ n : ℕ) (vs : List (List ℕ)) → get_elem? vw.core.contents.particles i ≡ some (output β ch g v) → get_elem? vw.core.contents.particles j ≡ some (input γ n vs) → i ≡ j → ⊥
  differ i j β ch g v γ n vs p q r =
      let z : some (output β ch g v) ≡ some (input γ n vs) = sym p ∙ ap (get_elem? vw.core.contents.particles) r ∙ q in
      let y : ◌≡◌ {A = ℕ} 0 1 = cc in
      omega arith

  module _ (i j β ch : ℕ) (g : STag) (v : List ℕ) (n : ℕ) (vs : List (List ℕ)) (gp : get_elem? vw.core.contents.particles i ≡ some (output β ch g v)) (gq : get_elem? vw.core.contents.particles j ≡ some (input β n vs))
      (node : InputAt vw.c.table n) (wp : wf_particle vw.c.table (counts s) (length vw.core.contents.boxes) (output β ch g v) ≡ true)
      (wq : wf_particle vw.c.table (counts s) (length vw.core.contents.boxes) (input β n vs) ≡ true) where
    abbrev pub ρ : Env
    ρ = env_at Tb n vs

    pub vals : every (wf_value (counts s)) vs ≡ true
    vals = input_vals ids A (counts s) (held_in b s) zero_in Tb vw.checked nb side β n vs wq

    pub sized : Sized (env_at Tb n vs)
    unfolding wf_particle
    sized = eqb-true (length vs) (length (scope Tb n)) (fst _ _ (snd _ _ (snd _ _ (snd _ _ wq))))

    pub fits_all : defined (term Tb n) (env_at Tb n vs) ≡ true
    unfolding wf_particle
    fits_all = snd _ _ (snd _ _ (snd _ _ (snd _ _ (snd _ _ wq))))

    pub fits_inp : is_name_in (env_at Tb n vs) node.chan & (tag_defined (env_at Tb n vs) node.tag & defined node.body (extend (env_at Tb n vs) (binders node.pat) (any_names (binders node.pat)))) ≡ true
    unfolding defined
    fits_inp = subst (λ (a : Term). defined a (env_at Tb n vs) ≡ true) node.is fits_all

    pub v_ok : wf_value (counts s) v ≡ true
    unfolding wf_particle
    v_ok = snd _ _ (snd _ _ (snd _ _ wp))

    pub v_items : items is_name 11 v 1 ≡ done []
    unfolding wf_value is_value
    v_items = shaped_items v (snd _ _ (fst _ _ v_ok))

    pub v_short : length v ≤ 16
    unfolding wf_value is_value
    v_short = leb-true (length v) 16 (fst _ _ (fst _ _ v_ok))

    pub v_held : every (held_word (counts s)) v ≡ true
    unfolding wf_value
    v_held = snd _ _ v_ok

    pub lb : β < nb
    unfolding wf_particle
    lb = ltb-true β nb (fst _ _ wp)

    abbrev pub ι : ITag ℕ
    ι = iren (itag_of node.tag) (λ x. the_name [] (env_of (env_at vw.c.table n vs) x))

    abbrev pub B0 : Proc Mark (shape (pat_of node.pat) ∷ [])
    B0 = proc (shape (pat_of node.pat) ∷ []) (part vw.c.side j) (code_of node.body) (under_pat (pat_of node.pat) (env_of (env_at vw.c.table n vs)))

    pub sound_in : CSound (shape (pat_of node.pat) ∷ []) (code_of node.body) (under_pat (pat_of node.pat) (env_of (env_at Tb n vs)))
    unfolding CSound code_of
    sound_in = (subst (λ (a : Term). CSound [] (code_of a) (env_of (env_at Tb n vs))) node.is (input_sound ids A (counts s) (held_in b s) zero_in Tb vw.checked nb side β n vs wq)).2

    module _ (fit : Fit) (mt : matches node.pat 1 v ≡ done fit) where
      abbrev pub ρ' : Env
      ρ' = extend (env_at Tb n vs) (binders node.pat) fit.bound

      pub mw : (length fit.bound ≡ length (binders node.pat)) × (every (wf_value (counts s)) fit.bound ≡ true)
      mw = matches_wf (counts s) node.pat 1 v fit mt node.pat_ok v_items v_short v_held

      pub sized' : Sized ρ'
      sized' = omega (arith, length-append vs fit.bound, length-append (scope Tb n) (binders node.pat), mw.0, sized)

      pub vals' : every (wf_value (counts s)) ρ'.vals ≡ true
      vals' = every_append (wf_value (counts s)) vs fit.bound vals mw.1

      pub bd : Bound node.pat v fit.bound
      bd = bound node.pat v fit mt node.pat_ok v_items node.differ

      pub env' : env_of ρ' ≡ with_pat (pat_of node.pat) bd.σ (env_of (env_at Tb n vs))
      env' = env_pat (env_at Tb n vs) node.pat v fit.bound sized node.pat_ok bd

      pub body_is : inst B0 bd.σ ≡ proc [] (part side j) (code_of node.body) (env_of ρ')
      body_is = proc_inst (part side j) (pat_of node.pat) (code_of node.body) (env_of (env_at Tb n vs)) bd.σ sound_in ∙ ap (proc [] (part side j) (code_of node.body)) (sym env')

      module _ (ft : defined node.body (extend (env_at vw.c.table n vs) (binders node.pat) fit.bound) ≡ true)
          (cw : ch ≡ word (env_at vw.c.table n vs) node.chan) (tf : tags_fit g (tag_of (env_at vw.c.table n vs) node.tag) ≡ true) where
        abbrev Q : Proc Mark []
        Q = pinp (mode_of node.again) (part vw.c.side j) ch ι (shape (pat_of node.pat)) B0

        chan_is : the_name [] (env_of (env_at Tb n vs) node.chan) ≡ ch
        chan_is = name_word (counts s) (env_at Tb n vs) vals node.chan node.chan_ok (fst _ _ fits_inp) ∙ sym cw

        Q-is : part_item ids Tb side j (input β n vs) ≡ item (site_of side β) Q
        unfolding proc code_of
        Q-is = ap (λ (a : Term). item (site_of side β) (proc [] (part side j) (code_of a) (env_of (env_at Tb n vs)))) node.is
            ∙ ap (λ (x : ℕ). item (site_of side β) (pinp (mode_of node.again) (part side j) x ι (shape (pat_of node.pat)) B0)) chan_is

        inst_ok : InstOk B0 bd.σ
        inst_ok = transport (sym (inst_defined (part side j) (pat_of node.pat) (code_of node.body) (env_of (env_at Tb n vs)) bd.σ sound_in))
            (subst (λ (r : ℕ → Val ℕ). CSound [] (code_of node.body) r) env' (fits_sound node.sits_body [] ρ' (env_of ρ') sized' (env_names ids A (counts s) (held_in b s) zero_in ρ' vals') ft))

        f_p : Fn⊆ (pout (part side i) ch (tag_out g) (val_of v)) A
        f_p = part_in ids A (counts s) (held_in b s) zero_in Tb vw.checked nb side i (output β ch g v) wp

        f_q : Fn⊆ Q A
        f_q = subst (λ (z : Item Mark). Fn⊆ z.what A) Q-is (part_in ids A (counts s) (held_in b s) zero_in Tb vw.checked nb side j (input β n vs) wq)

        tag_is : tag_out g ≡ comp (plain ι)
        tag_is = fit_comp g (tag_of (env_at Tb n vs) node.tag) tf ∙ ap comp (sym (tag_words (counts s) (env_at Tb n vs) vals node.tag node.tag_ok (fst _ _ (snd _ _ fits_inp))))

        d_p : Trans A (pout (part side i) ch (tag_out g) (val_of v)) (send ch (comp (plain ι)) (val_of v)) (lone (part side i)) pnil
        d_p = subst (λ (o : Tag ℕ). Trans A (pout (part side i) ch (tag_out g) (val_of v)) (send ch o (val_of v)) (lone (part side i)) pnil) tag_is (Out f_p)

        d_q : Trans A Q (recv ch (plain ι) (val_of v)) (joint (part side i) (part side j)) (leaves node.again Q (inst B0 bd.σ))
        d_q = subst (λ (R : Proc Mark []). Trans A Q (recv ch (plain ι) (val_of v)) (joint (part side i) (part side j)) R)
            (after_is node.again (part side j) ch ι (shape (pat_of node.pat)) B0 bd.σ) (recv_of (mode_of node.again) f_q bd.is inst_ok)

        beyond_none : beyond A (ch ∷ names (val_of v)) ≡ []
        unfolding AllN
        beyond_none = out_beyond A ch (val_of v) f_p.0 f_p.2

        moved : Moves A (conf_of b s).boxes (whole (wrapper_of b) side Tb vw.C vw.D vw.core) tau (joint (part side i) (part side j))
            (item (site_of side β) (remark forget (inst B0 bd.σ)) ∷ target (wrapper_of b) side Tb vw.C vw.D vw.core vw.core.lobby (without node.again vw.core.contents.particles i j))
        moved = go_meet (wrapper_of b) side Tb vw.C vw.D vw.core A (conf_of b s).boxes (wf_all b s e) (each_now b s e vw) node.again (site_of side β)
            (pout (part side i) ch (tag_out g) (val_of v)) Q (inst B0 bd.σ) (reach β lb) (plain ι) beyond_none d_p d_q
            (output β ch g v) (input β n vs) i j refl Q-is gp gq (differ i j β ch g v β n vs gp gq)

        moves_here : Moves A (conf_of b s).boxes (conf_of b s).items tau (joint (part side i) (part side j))
            (item (site_of side β) (proc [] tt (code_of node.body) (env_of ρ')) ∷ target (wrapper_of b) side Tb vw.C vw.D vw.core vw.core.lobby (without node.again vw.core.contents.particles i j))
        moves_here = subst₂ (λ (I : List (Item Mark)) (P : Proc (Unit {0}) []). Moves A (conf_of b s).boxes I tau (joint (part side i) (part side j))
            (item (site_of side β) P ∷ target (wrapper_of b) side Tb vw.C vw.D vw.core vw.core.lobby (without node.again vw.core.contents.particles i j)))
            (sym vw.items_now) (ap (remark forget) body_is ∙ remark_proc forget [] (part side j) (code_of node.body) (env_of ρ')) moved

        pub met : (unfolds side node.body ρ' β (with_particles vw.core.contents (without node.again vw.core.contents.particles i j))).minted ≤ 256
            → Goes b s (vw.next (with_contents vw.core (unfolds side node.body ρ' β (with_particles vw.core.contents (without node.again vw.core.contents.particles i j)))) vw.left) tau (joint (part side i) (part side j))
        met few = grown_goes b s e vw ori own node.sits_body ρ' refl sized' vals' ft β lb (without node.again vw.core.contents.particles i j)
            (every_without (wf_particle Tb (counts s) nb) node.again vw.core.contents.particles i j vw.ok.contents.particles) few moves_here

  pub meeting : (i j : ℕ) (m : Moved) → meet vw.c vw.core i j ≡ done m → limits m.core ≡ true → (m.label ≡ silent) × Goes b s (after b s e vw m) tau (joint (part side i) (part side j))
  unfolding meet meet_particles meet_term
  meeting i j m h lim =
      let (p, gp, h1) = pick_get vw.core.contents.particles i _ m h in
      let (q, gq, h2) = pick_get vw.core.contents.particles j _ m h1 in
      go p q gp gq (get_every (wf_particle Tb (counts s) nb) vw.core.contents.particles i p vw.ok.contents.particles gp)
      (get_every (wf_particle Tb (counts s) nb) vw.core.contents.particles j q vw.ok.contents.particles gq) h2
    where
      go : (p q : Particle) → get_elem? vw.core.contents.particles i ≡ some p → get_elem? vw.core.contents.particles j ≡ some q → wf_particle Tb (counts s) nb p ≡ true →
          wf_particle Tb (counts s) nb q ≡ true → meet_particles vw.c vw.core i j p q ≡ done m
          → (m.label ≡ silent) × Goes b s (after b s e vw m) tau (joint (part side i) (part side j))
      go (output β ch g v) (output γ ch' g' v') gp gq wp wq h = absurd (clash h)
      go (input β n vs) q gp gq wp wq h = absurd (clash h)
      go (output β ch g v) (input γ n vs) gp gq wp wq h =
          let node = input_node_lem ids A (counts s) (held_in b s) zero_in Tb vw.checked nb side γ n vs wq in
          at_node node (subst (λ (a : Term). meet_term vw.c vw.core i j β ch g v γ (env_at Tb n vs) a ≡ done m) node.is h)
        where
          at_node : (node : InputAt Tb n) → meet_term vw.c vw.core i j β ch g v γ (env_at Tb n vs) (inp n node.again node.chan node.tag node.pat node.body) ≡ done m →
              (m.label ≡ silent) × Goes b s (after b s e vw m) tau (joint (part side i) (part side j))
          at_node node h =
              let x = need_done _ _ _ _ h in
              let y = bind_done _ _ _ x.1 in
              let z = need_done _ _ _ _ y.2 in
              let same : γ ≡ β = sym (eqb-true β γ (fst _ _ x.0)) in
              let gq' = subst (λ (k : ℕ). get_elem? vw.core.contents.particles j ≡ some (input k n vs)) same gq in
              let wq' = subst (λ (k : ℕ). wf_particle Tb (counts s) nb (input k n vs) ≡ true) same wq in
              subst (λ (k : Moved). (k.label ≡ silent) × Goes b s (after b s e vw k) tau (joint (part side i) (part side j))) (done_inj z.1) (
                refl,
                met i j β ch g v n vs gp gq' node wp wq' y.0 y.1 z.0 (eqb-true ch (word (env_at Tb n vs) node.chan) (fst _ _ (snd _ _ x.0))) (snd _ _ (snd _ _ x.0))
                    (leb-true _ 256 (snd _ _ (snd _ _ (roomy_of _ (at_limits z.1 lim))))),
              )
