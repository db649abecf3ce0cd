-- Names bound one after another in lent words: how the words come about, and what the environment is then.
use mathlib.Core.Path.{◌≡◌, refl, sym, ap, ap₂, ◌∙◌, subst}
use mathlib.Core.Bool.{true, false}
use mathlib.Core.List.{List, [], ◌∷◌, ◌++◌, map, map-append}
use Prim.Native.Nat.{ℕ, suc, ◌+◌, ◌<◌, ◌≤◌}
use native.Mathlib.Nat.{add-zero}
use native.Mathlib.Numerals.{add-one}
use native.Mathlib.Omega.{arith}
use borrow.Author.Tests.{leb-true}
use lib.ListN.{length, get_or, take, drop, length-append, length-map, length-take}
use lib.Seq.{take-suc, length-take-le}
use Rattle.model.specs.Basics.{Res, refuse, done, is_done, every}
use Rattle.model.specs.Values.{Env, Fit, extend, binders, matches}
use Rattle.model.proofs.Basics.Tests.{fst, snd}
use Rattle.values.specs.declared.Part.{Part}
use Rattle.values.specs.declared.Bound as values
use Rattle.std.specs.declared.option.Option.{Option}
use Rattle.std.specs.declared.option.Option.TheVariants.{None, Some}
use Rattle.values.specs.declared.Matched.{Matched}
use Rattle.values.specs.declared.Value.{Value}
use Rattle.values.specs.Env.{view_value}
use Rattle.values.specs.Match.{part_of, view_bound, fit, fit_of, stored_after}
use Rattle.values.proofs.Names.{next_name, next_other, binders_front}
use Rattle.values.proofs.Matches.{matched_no, matched_yes}
use Rattle.values.proofs.Environments.{extend_none, extend_more}
use Rattle.sides.specs.Environments.{env_of, bound}
use Rattle.sides.proofs.Binding.{bound_length, env_bound, fits_bound}
use Rattle.environments.specs.Fits.{Fits}
use Rattle.environments.specs.Matching.{pattern_at, bound_all, Bindable, Matchable, names_after, words_after, BindingIs}
use Rattle.environments.proofs.Patterns.{is_short, pattern_binds, match_no, match_yes}

-- one name more
all_more : (ns : List ℕ) (vs : List (List ℕ)) (e : List ℕ) (n x : ℕ) (v : List ℕ) → length vs ≡ length ns →
    bound_all e n (ns ++ (x ∷ [])) (vs ++ (v ∷ [])) ≡ bound (bound_all e n ns vs) (n + length ns) x v
unfolding bound_all
all_more [] [] e n x v h = ap (λ (k : ℕ). bound e k x v) (sym (add-zero n))
all_more [] (u ∷ vs) e n x v h = absurd (omega arith)
all_more (y ∷ ns) [] e n x v h = absurd (omega arith)
all_more (y ∷ ns) (u ∷ vs) e n x v h =
    let k : n + 1 + length ns ≡ n + suc (length ns) = omega arith in
    all_more ns vs (bound e n y u) (n + 1) x v (omega arith) ∙ ap (λ (j : ℕ). bound (bound_all (bound e n y u) (n + 1) ns vs) j x v) k

all_length : (ns : List ℕ) (vs : List (List ℕ)) (e : List ℕ) (n : ℕ) → length (bound_all e n ns vs) ≡ length e
unfolding bound_all
all_length [] vs e n = refl
all_length (x ∷ ns) [] e n = refl
all_length (x ∷ ns) (v ∷ vs) e n = all_length ns vs (bound e n x v) (n + 1) ∙ bound_length e n x v

-- THE ENVIRONMENT WITH THE NAMES, each value within its place
all_env : (ns : List ℕ) (vs : List (List ℕ)) (e : List ℕ) (n : ℕ) → Fits e n → n + length ns ≤ 8 → length vs ≡ length ns → every is_short vs ≡ true →
    (env_of (bound_all e n ns vs) (n + length ns) ≡ extend (env_of e n) ns vs) × Fits (bound_all e n ns vs) (n + length ns)
unfolding bound_all
all_env [] [] e n f r h s =
    rw (add-zero n) (sym (extend_none (env_of e n)), f)
all_env [] (v ∷ vs) e n f r h s = absurd (omega arith)
all_env (x ∷ ns) [] e n f r h s = absurd (omega arith)
all_env (x ∷ ns) (v ∷ vs) e n f r h s =
    let k : n + 1 + length ns ≡ n + suc (length ns) = omega arith in
    let room : n < 8 = omega arith in
    let short : length v ≤ 16 = leb-true (length v) 16 (fst _ _ s) in
    let long = f.long in
    let next : Fits (bound e n x v) (n + 1) = record { long = bound_length e n x v ∙ long; few = omega arith; places = fits_bound e n x v long room short f.places } in
    let rest = all_env ns vs (bound e n x v) (n + 1) next (omega arith) (omega arith) (snd _ _ s) in
    let one = ap (λ (ρ : Env). extend ρ ns vs) (env_bound e n x v long room short) ∙ extend_more (env_of e n) (x ∷ []) ns (v ∷ []) vs in
    rw (← k) (rest.0 ∙ one, rest.1)

-- THE LOOP over the words of the pattern: after i words k names are bound to the first k parts
pub record Grown (e : List ℕ) (n : ℕ) (p v : List ℕ) (b : values.Bound) (i k : ℕ) (x : List ℕ) : Type 0 where
  pub names : k ≡ length (binders (take i p))
  pub words : x ≡ bound_all e n (binders (take i p)) (map (part_of v) (take k b.rows))

pub grown_none : (e : List ℕ) (n : ℕ) (p v : List ℕ) (b : values.Bound) → Grown e n p v b 0 0 e
unfolding bound_all
grown_none e n p v b = record { names = refl; words = refl }

module _ {e : List ℕ} {n : ℕ} {p v : List ℕ} {b : values.Bound} {i k : ℕ} {x : List ℕ} (g : Grown e n p v b i k x) where
  pub grown_length : length x ≡ length e
  grown_length = ap length g.words ∙ all_length (binders (take i p)) (map (part_of v) (take k b.rows)) e n

  module _ (h : i < length p) where
    pub grown_other : 63 < get_or p i 0 → Grown e n p v b (i + 1) k x
    grown_other l =
        let q = next_other p i h l in
        record { names = g.names ∙ ap length (sym q); words = g.words ∙ ap (λ (ns : List ℕ). bound_all e n ns (map (part_of v) (take k b.rows))) (sym q) }

    -- where a name is still to come there is a part for it
    pub grown_room : get_or p i 0 ≤ 63 → k < length (binders p)
    grown_room l =
        let q = ap length (next_name p i h l) in
        let u = length-append (binders (take i p)) (get_or p i 0 ∷ []) in
        let o = g.names in
        let m = binders_front p (i + 1) in
        omega arith

    pub grown_name : get_or p i 0 ≤ 63 → k < length b.rows → (d : Part) (w y : List ℕ) → w ≡ part_of v (get_or b.rows k d) →
        y ≡ bound x (n + k) (get_or p i 0) w → Grown e n p v b (i + 1) (k + 1) y
    grown_name l f d w y u z =
        let ns : List ℕ = binders (take i p) in
        let vs : List (List ℕ) = map (part_of v) (take k b.rows) in
        let q : binders (take (i + 1) p) ≡ ns ++ (get_or p i 0 ∷ []) = next_name p i h l in
        let part : List ℕ = part_of v (get_or b.rows k d) in
        let t : map (part_of v) (take (k + 1) b.rows) ≡ vs ++ (part ∷ []) = rw (add-one, take-suc b.rows k d f, map-append) in
        let same : length vs ≡ length ns = length-map (take k b.rows) (part_of v) ∙ length-take-le k b.rows (omega arith) ∙ g.names in
        let here : y ≡ bound (bound_all e n ns vs) (n + k) (get_or p i 0) part = z ∙ ap₂ (λ (a c : List ℕ). bound a (n + k) (get_or p i 0) c) g.words u in
        let now : y ≡ bound (bound_all e n ns vs) (n + length ns) (get_or p i 0) part = here ∙ ap (λ (j : ℕ). bound (bound_all e n ns vs) (n + j) (get_or p i 0) part) g.names in
        record {
          names = let a = g.names in omega (arith, ap length q, length-append ns (get_or p i 0 ∷ []));
          words = now ∙ sym (all_more ns vs e n (get_or p i 0) part same) ∙ ap₂ (bound_all e n) (sym q) (sym t);
        }

-- THE ANSWER for the words s of a pattern of the pool
module _ (pool : List ℕ) (place : ℕ) (e : List ℕ) (n : ℕ) (v : Value) (g : Matchable e n (pattern_at pool place) v) where
  abbrev p : List ℕ
  p = pattern_at pool place

  abbrev x : List ℕ
  x = view_value v

  few : length x ≤ 16
  few = let h = g.short in omega (arith, length-take v.len v.words)

  module _ (s : List ℕ) (w : s ≡ p) where
    at_pattern : (m : Option Matched) → fit_of s x m ≡ stored_after [] (matches s 1 x) → fit_of p x m ≡ stored_after [] (matches p 1 x)
    at_pattern m f = subst (λ (y : List ℕ). fit_of y x m ≡ stored_after [] (matches y 1 x)) w f

    module _ (m : Matched) (f : fit_of s x (Some m) ≡ stored_after [] (matches s 1 x)) where
      got : matches p 1 x ≡ done (fit (drop m.pattern p) (drop m.value x) (view_bound x m.bound))
      got = matched_yes p x m (at_pattern (Some m) f) (let h = g.room in omega arith)

      pub parts_bindable : Bindable e n (binders s) x m.bound
      parts_bindable = rw w (record { long = g.long; room = g.room; short = few; each = (pattern_binds pool place x _ got few).0 })

      pub binding_yes : (e' : List ℕ) (k : ℕ) → (k ≡ n + length (binders s)) × (e' ≡ bound_all e n (binders s) (view_bound x m.bound)) →
          BindingIs p x e n e' (Some k)
      unfolding names_after words_after
      binding_yes e' k q =
          record {
            count = rw got (ap Some (q.0 ∙ ap (λ (z : List ℕ). n + length (binders z)) w));
            words = rw got (q.1 ∙ ap (λ (z : List ℕ). bound_all e n (binders z) (view_bound x m.bound)) w);
          }

    pub binding_no : fit_of s x None ≡ stored_after [] (matches s 1 x) → BindingIs p x e n e None
    unfolding names_after words_after
    binding_no f = let no = matched_no p x (at_pattern None f) in record { count = rw no; words = rw no }

  -- FOR A CALLER: where the pattern takes the value, the environment is extended by what it binds
  env_after : (e' : List ℕ) (k : ℕ) → BindingIs p x e n e' (Some k) → Fits e n → (m : Fit) → matches p 1 x ≡ done m →
      (env_of e' k ≡ extend (env_of e n) (binders p) m.bound) × Fits e' k
  unfolding names_after words_after
  env_after e' k is fits m q =
      let each = pattern_binds pool place x m q few in
      let after : Some k ≡ Some (n + length (binders p)) = is.count ∙ rw q in
      let count : k ≡ n + length (binders p) = cc in
      let words : e' ≡ bound_all e n (binders p) m.bound = is.words ∙ rw q in
      rw (count, words) (all_env (binders p) m.bound e n fits g.room each.0 each.1)

  pub binding_env : (e' : List ℕ) (k : ℕ) → BindingIs p x e n e' (Some k) → Fits e n →
      (m : Fit) × (matches p 1 x ≡ done m) × (env_of e' k ≡ extend (env_of e n) (binders p) m.bound) × Fits e' k
  unfolding names_after
  binding_env e' k is fits =
      let (m, q) = match_yes p x (yes (matches p 1 x) is.count) in
      let (view, all) = env_after e' k is fits m q in
      (m, q, view, all)
    where
      yes : (r : Res Fit) → Some k ≡ names_after r n (binders p) → is_done r ≡ true
      yes (refuse j) h = cc
      yes (done m) h = refl

  -- and where it does not, 14 is the refusal, and all is as it was
  pub binding_none : (e' : List ℕ) → BindingIs p x e n e' None → (matches p 1 x ≡ refuse 14) × (e' ≡ e)
  unfolding names_after words_after
  binding_none e' is = let q = match_no p x (no (matches p 1 x) is.count) in (q, is.words ∙ rw q)
    where
      no : (r : Res Fit) → None ≡ names_after r n (binders p) → is_done r ≡ false
      no (refuse j) h = refl
      no (done m) h = cc
