-- What load gives is ready.
use mathlib.Core.Path.{◌≡◌, refl, ap, ◌∙◌, subst}
use mathlib.Core.Bool.{Bool, true, false, cond, false≢true}
use mathlib.Core.List.{List, [], ◌∷◌, map}
use Prim.Native.Nat.{ℕ, zero, suc, ◌+◌, ◌*◌, ◌≤◌}
use native.Mathlib.Omega.{arith}
use borrow.Author.Tests.{leb-true, eqb-true, le-leb, lt-ltb}
use lib.Dec.{leb, ltb, eqb}
use lib.ListN.{length, get_or, length-append, replicate}
use Rattle.model.specs.Basics.{◌&◌, choose, Res, refuse, done, every, has}
use Rattle.model.specs.Values.{is_public, binders, value, extend, substitute, word, is_name_in, Env, no_names}
use Rattle.model.specs.Table.{Table, scope, term, Term}
use Rattle.model.specs.Checks.{Fault}
use Rattle.model.specs.Side.{Contents, Side, State, within_limits, empty_contents, no_side, start_side, side}
use Rattle.model.specs.Unfolding.{add_box, mint, unfolds, defined, tag_defined, any_names}
use Rattle.model.specs.Wrapper.{all_sides, is_wrapper, has_side}
use Rattle.model.specs.Load.{Setting, Composition, setting, wrapper_of, table, load, load_sides, side_fault, lack_fault, Refused, ok, refused, is_ok, start, start_of}
use Rattle.model.specs.WellFormed.{Counts, counts, shelf_of, wf_boxes, wf_left, wf_side, wf_side_of, wf_taken, wf_state, is_no_side, ready}
use Rattle.model.specs.Step.{short}
use Rattle.model.proofs.Basics.Tests.{snd, both, alt_left, every_append, every_two, every_has}
use Rattle.model.proofs.Formed.Growing.{CoreOk, core_wf}
use Rattle.model.proofs.Basics.Environments.{look_all}
use Rattle.model.proofs.Basics.Checked.{Checked, Sits, s_nil, s_par, s_box, s_new, s_out, s_inp, sits}
use Rattle.model.proofs.Formed.UnfoldingKeeps.{tight, grows, unfolds_fit}
use Rattle.model.proofs.Formed.MeetingKeeps.{mine, fresh_held}
use Rattle.model.proofs.Formed.Invariant.{positive, count_is, load_checked}

-- a value that is one name
abbrev one_name : List ℕ → Bool
one_name v = ltb (get_or v 0 0) 4000000

abbrev one_word : List ℕ → Bool
one_word v = eqb (length v) 1

names_in : (ρ : Env) → every one_name ρ.vals ≡ true → (n : ℕ) → is_public n ≡ true → is_name_in ρ n ≡ true
names_in ρ h n p = let q = leb-true n 63 p in look_all one_name ρ.names ρ.vals n (n ∷ []) (lt-ltb n 4000000 (omega arith)) h

tags_in : (ρ : Env) → every one_name ρ.vals ≡ true → (g : ℕ) → leb g 65 ≡ true → tag_defined ρ g ≡ true
tags_in ρ h zero l = refl
tags_in ρ h (suc zero) l = refl
tags_in ρ h (suc (suc n)) l = let a = leb-true (suc (suc n)) 65 l in names_in ρ h n (le-leb n 63 (omega arith))

any_names_lem : (ns : List ℕ) → every one_name (any_names ns) ≡ true
any_names_lem [] = refl
any_names_lem (n ∷ ns) = both _ _ refl (any_names_lem ns)

-- 15 asks nothing while only names are bound
pub fits_names : {t : Table} {σ : List ℕ} {a : Term} → Sits t σ a → (ρ : Env) → every one_name ρ.vals ≡ true → defined a ρ ≡ true
unfolding defined
fits_names s_nil ρ h = refl
fits_names (s_par p q) ρ h = both _ _ (fits_names p ρ h) (fits_names q ρ h)
fits_names (s_box {x = x} px p) ρ h = both _ _ (names_in ρ h x px) (fits_names p ρ h)
fits_names (s_new {x = x} pn p) ρ h = fits_names p (extend ρ (x ∷ []) ((0 ∷ []) ∷ [])) (every_append one_name ρ.vals ((0 ∷ []) ∷ []) h (both _ _ refl refl))
fits_names (s_out {c = c} {g = g} pc pg pv sv) ρ h = both _ _ (names_in ρ h c pc) (tags_in ρ h g pg)
fits_names (s_inp {c = c} {g = g} {p = p} pc pg pp pd ln kn tm sc q) ρ h =
    both _ _ (names_in ρ h c pc) (both _ _ (tags_in ρ h g pg) (fits_names q (extend ρ (binders p) (any_names (binders p))) (every_append one_name ρ.vals (any_names (binders p)) h (any_names_lem (binders p)))))

-- nor does a value grow
subst_length : (ρ : Env) → every one_word ρ.vals ≡ true → (v : List ℕ) → length (substitute ρ v) ≡ length v
subst_length ρ h [] = refl
subst_length ρ h (w ∷ ws) =
    let one_word_lem : length (cond (is_public w) (value ρ w) (w ∷ [])) ≡ 1 = go (is_public w) in
    omega (arith, length-append (cond (is_public w) (value ρ w) (w ∷ [])) (substitute ρ ws), one_word_lem, subst_length ρ h ws)
  where
    go : (b : Bool) → length (cond b (value ρ w) (w ∷ [])) ≡ 1
    go true = eqb-true (length (value ρ w)) 1 (look_all one_word ρ.names ρ.vals w (w ∷ []) refl h)
    go false = refl

start_short : (i : ℕ) {t : Table} {σ : List ℕ} {a : Term} → Sits t σ a → (ρ : Env) → every one_word ρ.vals ≡ true → (b : ℕ) (s : Contents) → every short s.particles ≡ true → every short (unfolds i a ρ b s).particles ≡ true
unfolding unfolds
start_short i s_nil ρ h b s e = e
start_short i (s_par {a = x} p q) ρ h b s e = start_short i q ρ h b (unfolds i x ρ b s) (start_short i p ρ h b s e)
start_short i (s_box {x = x} px p) ρ h b s e = start_short i p ρ h (length s.boxes) (add_box s (word ρ x) b) e
start_short i (s_new {x = x} pn p) ρ h b s e =
    start_short i p (extend ρ (x ∷ []) (((65536 * i + s.minted) ∷ []) ∷ [])) (every_append one_word ρ.vals (((65536 * i + s.minted) ∷ []) ∷ []) h (both _ _ refl refl)) b (mint s) e
start_short i (s_out {c = c} {g = g} {v = v} pc pg pv sv) ρ h b s e = every_append short s.particles _ e (both _ _ (le-leb (length (substitute ρ v)) 16 (omega (arith, subst_length ρ h v))) refl)
start_short i (s_inp pc pg pp pd ln kn tm sc q) ρ h b s e = every_append short s.particles _ e (both _ _ refl refl)

pub scope_root : (t : Table) → scope t 0 ≡ []
unfolding Rattle.model.specs.Table.scope_up
scope_root t = refl

start_core : (c : Setting) (k : Counts) → Checked c.table → has c.side all_sides ≡ true → mine c k ≡ (start c.side c.table).minted → within_limits (start c.side c.table) ≡ true →
    CoreOk c k (start_side (start c.side c.table)).core
unfolding start wf_boxes
start_core c k ch which mi ro =
    let t = c.table in
    let u : Contents = start c.side t in
    let st : Sits t [] (term t 0) = subst (λ (x : List ℕ). Sits t x (term t 0)) (scope_root t) (sits t ch 0 ch.some) in
    let few : u.minted ≤ 256 = leb-true u.minted 256 (snd _ _ (snd _ _ ro)) in
    let gr = grows c.side (term t 0) no_names 0 empty_contents in
    let fit = unfolds_fit t k c.side u.minted (λ n l. (fresh_held c k which u.minted mi few n l).0) (λ n l. (fresh_held c k which u.minted mi few n l).1)
    st no_names refl refl refl (fits_names st no_names refl) 0 empty_contents (omega arith) (record { boxes = both _ _ (alt_left _ _ refl) refl; particles = refl }) (omega arith) in
    record {
      contents = record { few = ro; box0 = gr.1; boxes = fit.boxes; particles = every_two _ _ _ (tight t k (length u.boxes)) u.particles fit.particles (start_short c.side st no_names refl 0 empty_contents refl) };
      few_lobby = omega arith;
      lobby = refl;
      few_shelf = omega arith;
      shelf = refl;
      whose = alt_left _ _ refl;
    }

pub no_marks_lem : (k : Counts) → wf_left k 0 (replicate 512 false) ≡ true
unfolding wf_left ◌&◌
no_marks_lem k = refl

no_taken : (t : Bool) (sh : ℕ → List (List ℕ)) → wf_taken t sh 0 (replicate 64 false) ≡ true
unfolding wf_taken ◌&◌
no_taken t sh = refl

no_side_lem : is_no_side no_side ≡ true
unfolding is_no_side ◌&◌
no_side_lem = refl

pub start_side_lem : (c : Setting) (k : Counts) (sh : ℕ → List (List ℕ)) → Checked c.table → has c.side all_sides ≡ true → mine c k ≡ (start c.side c.table).minted → within_limits (start c.side c.table) ≡ true →
    wf_side c k sh (start_side (start c.side c.table)) ≡ true
unfolding wf_side
start_side_lem c k sh ch which mi ro = both _ _ (core_wf c k _ (start_core c k ch which mi ro)) (both _ _ (both _ _ refl (no_marks_lem k)) (both _ _ refl (no_taken _ sh)))

pub ok_inj : {s t : State} → ok s ≡ ok t → s ≡ t
ok_inj e = cc

pub never : {r : Refused} {s : State} → refused r ≡ ok s → ⊥
never e = let z : ◌≡◌ {A = ℕ} 0 1 = cc in omega arith

load_sides_lem : (b : Composition) (ns : List ℕ) (s t : State) → load_sides b ns (ok t) ≡ ok s → t ≡ s
unfolding load_sides
load_sides_lem b [] s t e = ok_inj e
load_sides_lem b (n ∷ ns) s t e = go (choose (has_side (wrapper_of b) n) (side_fault n (table b n)) (lack_fault (table b n))) refl (λ z. load_sides_lem b ns s t z)
  where
    go : (r : Res Fault) → choose (has_side (wrapper_of b) n) (side_fault n (table b n)) (lack_fault (table b n)) ≡ r → (load_sides b ns (ok t) ≡ ok s → t ≡ s) → t ≡ s
    go (refuse k) q ih = ih (rw (q, load_sides) at e)
    go (done f) q ih = absurd (never (rw (q, load_sides) at e))

-- the state that load gives
abbrev pub start_state : Composition → State
start_state b = record { sides = map (start_of b) all_sides }

pub load_state : (b : Composition) (s : State) → load b ≡ ok s → start_state b ≡ s
unfolding load
load_state b s e = go (is_wrapper b.wrapper) refl
  where
    go : (t : Bool) → is_wrapper b.wrapper ≡ t → start_state b ≡ s
    go true q = load_sides_lem b all_sides s (start_state b) (rw (q, load) at e)
    go false q = absurd (never (rw (q, load) at e))

start_of_lem : (b : Composition) (n : ℕ) → has n all_sides ≡ true → side (start_state b) n ≡ start_of b n
start_of_lem b zero h = absurd (false≢true h)
start_of_lem b (suc zero) h = refl
start_of_lem b (suc (suc zero)) h = refl
start_of_lem b (suc (suc (suc n))) h = let r = positive (suc (suc (suc n))) h in absurd (omega (arith, r.1))

pub starts : (b : Composition) (s : State) → load b ≡ ok s → ready b s ≡ true
unfolding ready wf_state wf_side_of
starts b s e = subst (λ (t : State). is_ok (load b) & (eqb (length t.sides) 2 & every (wf_side_of b t) all_sides) ≡ true) (load_state b s e) (both _ _ (ap is_ok e) (both _ _ refl (every_has (wf_side_of b (start_state b)) all_sides each)))
  where
    at : (n : ℕ) → has n all_sides ≡ true → (t : Bool) → has_side (wrapper_of b) n ≡ t →
        cond t (wf_side (setting b n) (counts (start_state b)) (shelf_of (start_state b)) (cond t (start_side (start n (table b n))) no_side)) (is_no_side (cond t (start_side (start n (table b n))) no_side)) ≡ true
    at n h true p =
        let r = load_checked b (ap is_ok e) n p in
        start_side_lem (setting b n) (counts (start_state b)) (shelf_of (start_state b)) r.0 h
        (count_is (start_state b) n ∙ ap (λ (u : Side). u.core.contents.minted) (start_of_lem b n h ∙ ap (λ (t : Bool). cond t (start_side (start n (table b n))) no_side) p)) r.1
    at n h false p = no_side_lem

    each : (n : ℕ) → has n all_sides ≡ true → cond (has_side (wrapper_of b) n) (wf_side (setting b n) (counts (start_state b)) (shelf_of (start_state b)) (side (start_state b) n)) (is_no_side (side (start_state b) n)) ≡ true
    each n h = rw (start_of_lem b n h) (at n h (has_side (wrapper_of b) n) refl)
