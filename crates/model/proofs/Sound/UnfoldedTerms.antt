-- Unfolding a node into a side is unfolding its handler.
use mathlib.Core.Path.{◌≡◌, refl, sym, ap, ap₂, ◌∙◌}
use mathlib.Core.Bool.{Bool, true, false, cond}
use mathlib.Core.List.{List, [], ◌∷◌, ◌++◌, map, append_assoc}
use Prim.Native.Nat.{ℕ, suc, ◌+◌, ◌*◌, ◌<◌, ◌≤◌}
use native.Mathlib.Omega.{arith}
use borrow.Author.Tests.{ne_eqb}
use lib.Dec.{eqb}
use lib.ListN.{length, length-append}
use Rattle.calculus.specs.Syntax.{Val, Proc, the_name}
use Rattle.calculus.specs.Syntax.{out as pout, nm as cnm}
use Rattle.calculus.specs.Tree.{Place}
use Rattle.calculus.specs.Tree.{Item, Conf}
use Rattle.calculus.proofs.Unfolding.{unfold'}
use Rattle.calculus.specs.Named.{cout, named, with_pat, proc}
use Rattle.model.specs.Basics.{every}
use Rattle.model.specs.Values.{Env, extend, word, substitute}
use Rattle.model.specs.Table.{Table, Term}
use Rattle.model.specs.Side.{Particle, output, input, Box, Contents}
use Rattle.model.specs.Unfolding.{defined, unfolds, add_particle, add_box, mint, tag_of}
use Rattle.model.specs.WellFormed.{Counts, held, wf_value}
use Rattle.model.specs.Process.{own_name, site_of, val_of, code_of, env_of, itag_of, place_of, places_of}
use Rattle.model.proofs.Basics.Tests.{fst, snd, every_append, every_one}
use Rattle.model.proofs.Basics.Names.{held_name}
use Rattle.model.proofs.Basics.Environments.{Sized, fits_fresh, name_wf}
use Rattle.model.proofs.Basics.Checked.{Sits, s_nil, s_par, s_box, s_new, s_out, s_inp}
use Rattle.model.proofs.Formed.UnfoldingKeeps.{grows}
use Rattle.model.proofs.Processes.Boxes.{places_app}
use Rattle.model.proofs.Basics.Splits.{map_add}
use Rattle.model.proofs.Sound.ItemMoves.{forget, plain_p}
use Rattle.model.proofs.Sound.Substitutions.{env_new, name_word, tag_words, val_subst}

module _ (T : Table) (side : ℕ) (Bo : List (Place (Unit {0}))) (R : List (Item (Unit {0}))) (Nm : ℕ → List ℕ) where
  -- a side's contents among the rest
  abbrev pub conf_s : Contents → Conf (Unit {0})
  conf_s u = record { boxes = places_of forget side 0 u.boxes Bo; items = R ++ map (plain_p T side) u.particles; names = Nm u.minted; sites = length u.boxes; serial = u.minted }

  module _ (mt : ℕ → ℕ) (k : Counts) (m0 N : ℕ) (agree : (m : ℕ) → m < N → mt m ≡ 65536 * side + m) (more : (m : ℕ) → m0 ≤ m → m < N → Nm (suc m) ≡ Nm m ++ mt m ∷ [])
      (fresh : (j : ℕ) → j < N → held k (65536 * side + j) ≡ true) (small : (j : ℕ) → j < N → 65536 * side + j < 4000000) where
    added : (u : Contents) (p : Particle) (b : ℕ) (P : Proc (Unit {0}) []) → plain_p T side p ≡ record { site = site_of side b; what = P }
        → record { boxes = (conf_s u).boxes; items = (conf_s u).items ++ record { site = site_of side b; what = P } ∷ []; names = (conf_s u).names; sites = (conf_s u).sites; serial = (conf_s u).serial } ≡ conf_s (add_particle u p)
    added u p b P e = λ t. record { boxes = (conf_s u).boxes; items = q t; names = (conf_s u).names; sites = (conf_s u).sites; serial = (conf_s u).serial }
      where
        q : (R ++ map (plain_p T side) u.particles) ++ record { site = site_of side b; what = P } ∷ [] ≡ R ++ map (plain_p T side) (u.particles ++ p ∷ [])
        q = append_assoc R (map (plain_p T side) u.particles) (record { site = site_of side b; what = P } ∷ [])
            ∙ ap (λ (l : List (Item (Unit {0}))). R ++ l) (ap (λ (i : Item (Unit {0})). map (plain_p T side) u.particles ++ i ∷ []) (sym e) ∙ sym (map_add (plain_p T side) u.particles p))

    boxed_in : (u : Contents) (b n n' : ℕ) → 1 ≤ length u.boxes → n ≡ n'
        → record {
          boxes = record { site = site_of side (length u.boxes); parent = site_of side b; name = n; mark = tt } ∷ (conf_s u).boxes;
          items = (conf_s u).items;
          names = (conf_s u).names;
          sites = suc (conf_s u).sites;
          serial = (conf_s u).serial;
        } ≡ conf_s (add_box u n' b)
    boxed_in u b n n' l e = λ t. record { boxes = q t; items = (conf_s u).items; names = (conf_s u).names; sites = z t; serial = (conf_s u).serial }
      where
        bx : Box
        bx = record { name = n'; parent = b }

        z : suc (length u.boxes) ≡ length (u.boxes ++ bx ∷ [])
        z = omega (arith, length-append u.boxes (bx ∷ []))

        off : eqb (length u.boxes) 0 ≡ false
        off = ne_eqb (length u.boxes) 0 (λ r. omega arith)

        same : record { site = site_of side (length u.boxes); parent = site_of side b; name = n; mark = tt } ≡ place_of forget side (length u.boxes) bx
        same = ap (λ (x : ℕ). record { site = site_of side (length u.boxes); parent = site_of side b; name = x; mark = tt }) e
            ∙ ap (λ (t : Bool). record { site = site_of side (length u.boxes); parent = cond t 0 (site_of side b); name = cond t (own_name side) n'; mark = tt }) (sym off)

        q : record { site = site_of side (length u.boxes); parent = site_of side b; name = n; mark = tt } ∷ places_of forget side 0 u.boxes Bo ≡ places_of forget side 0 (u.boxes ++ bx ∷ []) Bo
        q = ap (λ (x : Place (Unit {0})). x ∷ places_of forget side 0 u.boxes Bo) same ∙ sym (places_app forget side 0 u.boxes bx Bo ∙ ap (λ (j : ℕ). place_of forget side j bx ∷ places_of forget side 0 u.boxes Bo) (omega arith))

    minted_on : (u : Contents) → Nm (suc u.minted) ≡ Nm u.minted ++ mt u.minted ∷ []
        → record { boxes = (conf_s u).boxes; items = (conf_s u).items; names = (conf_s u).names ++ mt u.minted ∷ []; sites = (conf_s u).sites; serial = suc (conf_s u).serial } ≡ conf_s (mint u)
    minted_on u e = λ t. record { boxes = (conf_s u).boxes; items = (conf_s u).items; names = q t; sites = (conf_s u).sites; serial = z t }
      where
        z : suc u.minted ≡ u.minted + 1
        z = omega arith

        q : Nm u.minted ++ mt u.minted ∷ [] ≡ Nm (u.minted + 1)
        q = sym e ∙ ap Nm z

    pub unfolded : {σ : List ℕ} {a : Term} → Sits T σ a → (ρ : Env) → ρ.names ≡ σ → Sized ρ → every (wf_value k) ρ.vals ≡ true → defined a ρ ≡ true → (b : ℕ) (u : Contents) →
        1 ≤ length u.boxes → m0 ≤ u.minted → (unfolds side a ρ b u).minted ≤ N
        → unfold' mt (site_of side) tt (code_of a) (env_of ρ) (site_of side b) (conf_s u) ≡ conf_s (unfolds side a ρ b u)
    unfolding unfolds unfold' code_of defined proc
    unfolded s_nil ρ nm ln vs ft b u l m n = refl
    unfolded (s_par {a = x} {b = y} p q) ρ nm ln vs ft b u l m n =
        let g = grows side x ρ b u in
        let g' = grows side y ρ b (unfolds side x ρ b u) in
        ap (unfold' mt (site_of side) tt (code_of y) (env_of ρ) (site_of side b)) (unfolded p ρ nm ln vs (fst _ _ ft) b u l m (omega arith))
        ∙ unfolded q ρ nm ln vs (snd _ _ ft) b (unfolds side x ρ b u) (omega arith) (omega arith) n
    unfolded (s_box {x = x} {a = a} px p) ρ nm ln vs ft b u l m n =
        ap (unfold' mt (site_of side) tt (code_of a) (env_of ρ) (site_of side (length u.boxes))) (boxed_in u b (the_name [] (env_of ρ x)) (word ρ x) l (name_word k ρ vs x px (fst _ _ ft)))
        ∙ unfolded p ρ nm ln vs (snd _ _ ft) (length u.boxes) (add_box u (word ρ x) b) (omega (arith, length-append u.boxes (record { name = word ρ x; parent = b } ∷ []))) m n
    unfolded (s_new {x = x} {a = a} px p) ρ nm ln vs ft b u l m n =
        let w = 65536 * side + u.minted in
        let ρ' : Env = extend ρ (x ∷ []) ((w ∷ []) ∷ []) in
        let g = grows side a ρ' b (mint u) in
        let lt : u.minted < N = omega (arith, g.0) in
        let fr = fresh u.minted lt in
        ap (λ (c : Conf (Unit {0})). unfold' mt (site_of side) tt (code_of a) (with_pat (named x) (λ z. cnm (mt u.minted)) (env_of ρ)) (site_of side b) c) (minted_on u (more u.minted m lt))
        ∙ ap (λ (y : ℕ). unfold' mt (site_of side) tt (code_of a) (with_pat (named x) (λ z. cnm y) (env_of ρ)) (site_of side b) (conf_s (mint u))) (agree u.minted lt)
        ∙ ap (λ (r : ℕ → Val ℕ). unfold' mt (site_of side) tt (code_of a) r (site_of side b) (conf_s (mint u))) (sym (env_new ρ x w ln px (small u.minted lt)))
        ∙ unfolded p ρ' (ap (λ (z : List ℕ). z ++ x ∷ []) nm) (omega (arith, length-append ρ.vals ((w ∷ []) ∷ []), length-append ρ.names (x ∷ [])))
        (every_append (wf_value k) ρ.vals ((w ∷ []) ∷ []) vs (every_one (wf_value k) (w ∷ []) (name_wf k w (held_name k w fr) fr)))
        (fits_fresh a ρ x w ln (small u.minted lt) ft) b (mint u) l (omega arith) n
    unfolded (s_out {c = c} {g = g} {v = v} pc pg iv lv) ρ nm ln vs ft b u l m n =
        added u (output b (word ρ c) (tag_of ρ g) (substitute ρ v)) b (proc [] tt (cout c (itag_of g) (val_of v)) (env_of ρ))
        (λ t. record { site = site_of side b; what = pout tt (sym (name_word k ρ vs c pc (fst _ _ ft)) t) (sym (tag_words k ρ vs g pg (snd _ _ ft)) t) (val_subst k ρ vs v iv t) })
    unfolded (s_inp {n = n'} pc pg ip pd ln' kn tm sc p) ρ nm ln vs ft b u l m n =
        added u (input b n' ρ.vals) b _
        (ap₂ (λ (z : List ℕ) (y : Term). record { site = site_of side b; what = proc [] tt (code_of y) (env_of (record { names = z; vals = ρ.vals })) }) (sc ∙ sym nm) tm)
