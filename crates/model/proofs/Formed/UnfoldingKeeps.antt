-- Unfolding keeps a side well formed.
use mathlib.Core.Path.{◌≡◌, refl, sym, ap, ◌∙◌}
use mathlib.Core.Bool.{Bool, true}
use mathlib.Core.List.{List, [], ◌∷◌, ◌++◌}
use Prim.Native.Nat.{ℕ, suc, ◌+◌, ◌*◌, ◌<◌, ◌≤◌}
use native.Mathlib.Nat.{add-zero}
use native.Mathlib.Omega.{arith}
use borrow.Author.Tests.{eq-eqb, lt-ltb}
use lib.Dec.{leb, ltb}
use lib.ListN.{length, length-append}
use Rattle.model.specs.Basics.{◌&◌, every}
use Rattle.model.specs.Values.{is_value, shaped, extend, substitute, word, Env}
use Rattle.model.specs.Table.{Table, count, kind, scope, term, Term, nil, par, box, new, out, inp}
use Rattle.model.specs.Side.{Particle, output, input, Box, Contents}
use Rattle.model.specs.Unfolding.{tag_of, add_particle, add_box, mint, unfolds, defined}
use Rattle.model.specs.WellFormed.{Counts, held, held_word, wf_value, wf_tag, wf_particle, wf_boxes}
use Rattle.model.specs.Step.{short}
use Rattle.model.proofs.Basics.Tests.{fst, snd, both, alt_right, every_append, every_one, every_mono}
use Rattle.model.proofs.Basics.Names.{held_name}
use Rattle.model.proofs.Formed.Growing.{less}
use Rattle.model.proofs.Basics.Items.{items_shaped}
use Rattle.model.proofs.Basics.Environments.{name_wf, word_held, tag_held, subst_ok, fits_fresh}
use Rattle.model.proofs.Basics.Checked.{Sits, s_nil, s_par, s_box, s_new, s_out, s_inp}

-- `wfPart` but for a value's length, which 16 checks
unfoldable pub loose : Table → Counts → ℕ → Particle → Bool
loose t k nb (output b c g v) = ltb b nb & (held k c & (wf_tag k g & (shaped v & every (held_word k) v)))
loose t k nb (input b n vs) = wf_particle t k nb (input b n vs)

pub tight : (t : Table) (k : Counts) (nb : ℕ) (p : Particle) → loose t k nb p ≡ true → short p ≡ true → wf_particle t k nb p ≡ true
unfolding loose wf_particle wf_value is_value
tight t k nb (output b c g v) e s =
    both _ _ (fst _ _ e) (both _ _ (fst _ _ (snd _ _ e)) (both _ _ (fst _ _ (snd _ _ (snd _ _ e)))
    (both _ _ (both _ _ s (fst _ _ (snd _ _ (snd _ _ (snd _ _ e))))) (snd _ _ (snd _ _ (snd _ _ (snd _ _ e)))))))
tight t k nb (input b n vs) e s = e

pub loosen : (t : Table) (k : Counts) (nb : ℕ) (p : Particle) → wf_particle t k nb p ≡ true → loose t k nb p ≡ true
unfolding loose wf_particle wf_value is_value
loosen t k nb (output b c g v) e =
    both _ _ (fst _ _ e) (both _ _ (fst _ _ (snd _ _ e)) (both _ _ (fst _ _ (snd _ _ (snd _ _ e)))
    (both _ _ (snd _ _ (fst _ _ (snd _ _ (snd _ _ (snd _ _ e))))) (snd _ _ (snd _ _ (snd _ _ (snd _ _ e)))))))
loosen t k nb (input b n vs) e = e

loose_mono : (t : Table) (k : Counts) (nb nb' : ℕ) → nb ≤ nb' → (p : Particle) → loose t k nb p ≡ true → loose t k nb' p ≡ true
unfolding loose wf_particle
loose_mono t k nb nb' h (output b c g v) e = both _ _ (less b nb nb' (fst _ _ e) h) (snd _ _ e)
loose_mono t k nb nb' h (input b n vs) e = both _ _ (less b nb nb' (fst _ _ e) h) (snd _ _ e)

boxes_append : (k : Counts) (l : List Box) (i : ℕ) (x : Box) → wf_boxes k i l ≡ true → ltb x.parent (i + length l) & held k x.name ≡ true → wf_boxes k i (l ++ (x ∷ [])) ≡ true
unfolding wf_boxes
boxes_append k [] i x e h = both _ _ (alt_right _ _ (rw add-zero at h)) refl
boxes_append k (y ∷ ys) i x e h =
    let q : i + suc (length ys) ≡ i + 1 + length ys = omega arith in
    both _ _ (fst _ _ e) (boxes_append k ys (i + 1) x (snd _ _ e) (rw q at h))

pub record ContentsFit (t : Table) (k : Counts) (s : Contents) : Type 0 where
  pub boxes : wf_boxes k 0 s.boxes ≡ true
  pub particles : every (loose t k (length s.boxes)) s.particles ≡ true

inp_ok : (t : Table) (k : Counts) (nb b n : ℕ) (ρ : Env) (a : Term) → b < nb → n < count t → leb 5 (kind t n) ≡ true → term t n ≡ a → scope t n ≡ ρ.names →
    length ρ.vals ≡ length ρ.names → every (wf_value k) ρ.vals ≡ true → defined a ρ ≡ true → wf_particle t k nb (input b n ρ.vals) ≡ true
unfolding wf_particle
inp_ok t k nb b n ρ a l h kn tm sc ln vs ft =
    both _ _ (lt-ltb b nb l) (both _ _ (lt-ltb n (count t) h) (both _ _ kn (both _ _ (eq-eqb (length ρ.vals) (length (scope t n)) (ln ∙ ap length (sym sc))) (both _ _ vs (rw (tm, sc) ft)))))

-- counts only grow
pub grows : (i : ℕ) (a : Term) (ρ : Env) (b : ℕ) (s : Contents) → (s.minted ≤ (unfolds i a ρ b s).minted) × (length s.boxes ≤ length (unfolds i a ρ b s).boxes)
unfolding unfolds
grows i (nil n) ρ b s = (omega arith, omega arith)
grows i (par n l r) ρ b s =
    let p = grows i l ρ b s in
    let q = grows i r ρ b (unfolds i l ρ b s) in
    (omega arith, omega arith)
grows i (box n x a) ρ b s =
    let p = grows i a ρ (length s.boxes) (add_box s (word ρ x) b) in
    (p.0, omega (arith, p.1, length-append s.boxes (record { name = word ρ x; parent = b } ∷ [])))
grows i (new n x a) ρ b s = let p = grows i a (extend ρ (x ∷ []) (((65536 * i + s.minted) ∷ []) ∷ [])) b (mint s) in (omega (arith, p.0), p.1)
grows i (out n c g v) ρ b s = (omega arith, omega arith)
grows i (inp n r c g p a) ρ b s = (omega arith, omega arith)

module _ (t : Table) (k : Counts) (i N : ℕ) (fresh : (j : ℕ) → j < N → held k (65536 * i + j) ≡ true) (small : (j : ℕ) → j < N → 65536 * i + j < 4000000) where
  add_fit : (s : Contents) (p : Particle) → ContentsFit t k s → loose t k (length s.boxes) p ≡ true → ContentsFit t k (add_particle s p)
  add_fit s p f h = record { boxes = f.boxes; particles = every_append (loose t k (length s.boxes)) s.particles (p ∷ []) f.particles (every_one (loose t k (length s.boxes)) p h) }

  pub unfolds_fit : {σ : List ℕ} {a : Term} → Sits t σ a → (ρ : Env) → ρ.names ≡ σ → length ρ.vals ≡ length ρ.names → every (wf_value k) ρ.vals ≡ true → defined a ρ ≡ true →
      (b : ℕ) (s : Contents) → b < length s.boxes → ContentsFit t k s → (unfolds i a ρ b s).minted ≤ N → ContentsFit t k (unfolds i a ρ b s)
  unfolding unfolds defined loose
  unfolds_fit s_nil ρ nm ln vs ft b s l f m = f
  unfolds_fit (s_par {a = x} {b = y} p q) ρ nm ln vs ft b s l f m =
      let g = grows i x ρ b s in
      let g' = grows i y ρ b (unfolds i x ρ b s) in
      unfolds_fit q ρ nm ln vs (snd _ _ ft) b (unfolds i x ρ b s) (omega arith) (unfolds_fit p ρ nm ln vs (fst _ _ ft) b s l f (omega arith)) m
  unfolds_fit (s_box {x = x} {a = a} px p) ρ nm ln vs ft b s l f m =
      let len = length-append s.boxes (record { name = word ρ x; parent = b } ∷ []) in
      unfolds_fit p ρ nm ln vs (snd _ _ ft) (length s.boxes) (add_box s (word ρ x) b) (omega arith)
      (record {
        boxes = boxes_append k s.boxes 0 (record { name = word ρ x; parent = b }) f.boxes (both _ _ (lt-ltb b (0 + length s.boxes) (omega arith)) (word_held k ρ vs x px (fst _ _ ft)));
        particles = every_mono _ _ (loose_mono t k (length s.boxes) (length (s.boxes ++ (record { name = word ρ x; parent = b } ∷ []))) (omega arith)) s.particles f.particles;
      })
      m
  unfolds_fit (s_new {x = x} {a = a} pn p) ρ nm ln vs ft b s l f m =
      let g = grows i a (extend ρ (x ∷ []) (((65536 * i + s.minted) ∷ []) ∷ [])) b (mint s) in
      let lt : s.minted < N = omega (arith, g.0) in
      let fr = fresh s.minted lt in
      unfolds_fit p (extend ρ (x ∷ []) (((65536 * i + s.minted) ∷ []) ∷ [])) (rw nm)
      (omega (arith, length-append ρ.vals (((65536 * i + s.minted) ∷ []) ∷ []), length-append ρ.names (x ∷ [])))
      (every_append (wf_value k) ρ.vals (((65536 * i + s.minted) ∷ []) ∷ []) vs (every_one (wf_value k) ((65536 * i + s.minted) ∷ []) (name_wf k (65536 * i + s.minted) (held_name k (65536 * i + s.minted) fr) fr)))
      (fits_fresh a ρ x (65536 * i + s.minted) ln (small s.minted lt) ft) b (mint s) l (record { boxes = f.boxes; particles = f.particles }) m
  unfolds_fit (s_out {c = c} {g = g} {v = v} pc pg pv sv) ρ nm ln vs ft b s l f m =
      let so = subst_ok k ρ vs v pv in
      add_fit s (output b (word ρ c) (tag_of ρ g) (substitute ρ v)) f
      (both _ _ (lt-ltb b (length s.boxes) l) (both _ _ (word_held k ρ vs c pc (fst _ _ ft)) (both _ _ (tag_held k ρ vs g pg (snd _ _ ft)) (both _ _ (items_shaped (substitute ρ v) so.0) so.1))))
  unfolds_fit (s_inp {n = n} pc pg pp pd ln' kn tm sc p) ρ nm ln vs ft b s l f m =
      add_fit s (input b n ρ.vals) f (inp_ok t k (length s.boxes) b n ρ _ l ln' kn tm (sc ∙ sym nm) ln vs ft)
