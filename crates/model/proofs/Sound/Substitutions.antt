-- Words substituted are values substituted; an environment with more names in force.
use mathlib.Core.Path.{◌≡◌, refl, sym, ap, ap₂, ◌∙◌, subst, fun_ext}
use mathlib.Core.Bool.{Bool, true, false, cond, false≢true}
use mathlib.Core.List.{List, [], ◌∷◌, ◌++◌}
use mathlib.Core.Option.{none, some}
use Prim.Native.Nat.{ℕ, zero, suc, ◌+◌, ◌<◌}
use native.Mathlib.Omega.{arith}
use borrow.Author.Tests.{leb-true, ltb-false, eqb-true, le-leb, lt-ltb}
use lib.Dec.{leb, ltb, eqb}
use lib.ListN.{length}
use Rattle.calculus.specs.Syntax.{Val, Vals, nm, tup, vnil, vcons, vsub, vsubs, the_name, iren, plain}
use Rattle.calculus.specs.Syntax.{child as ichild}
use Rattle.model.specs.Basics.{done, every}
use Rattle.model.specs.Values.{items, is_tuple, is_name, is_public, arity, Env, extend, value, substitute, word, is_name_in, is_value}
use Rattle.model.specs.Unfolding.{tag_of, tag_defined}
use Rattle.model.specs.WellFormed.{Counts, wf_value}
use Rattle.model.specs.Process.{vcount, first_v, behind_v, reads, head_v, val_of, env_of, itag_of, tag_out}
use Rattle.calculus.specs.Named.{named, value_or, with_pat}
use Rattle.model.proofs.Basics.Tests.{fst, snd}
use Rattle.model.proofs.Formed.Keeping.{done_inj, items_words}
use Rattle.model.proofs.Basics.Items.{clash, items_leaf, items_tuple, items_bad, shaped_items, tuple_not_public}
use Rattle.model.proofs.Basics.Environments.{Sized, look_append, value_ok}
use Rattle.model.proofs.Processes.ValueWords.{reads_tuple, reads_name, read_back, worded, val_all, val_written, write_back}
use Rattle.model.proofs.Processes.ItemFacts.{val_name}

-- a whole value in front
pub value_front : (u r : List ℕ) (n : ℕ) → items is_name 11 u 1 ≡ done [] → reads (u ++ r) (suc n) ≡ vcons (val_of u) (reads r n)
value_front u r n h =
    let w = val_written u h in
    ap (λ (x : List ℕ). reads (x ++ r) (suc n)) (sym w) ∙ read_back (val_of u) r n (subst (λ (x : List ℕ). every worded x ≡ true) (sym w) wd) (val_all (λ x. is_tuple x ≡ false) worded (λ x p q. q) not0 u wd)
  where
    wd : every worded u ≡ true
    wd = items_words is_name 11 u 1 [] h refl

    not0 : is_tuple 0 ≡ false
    not0 = go (is_tuple 0) refl
      where
        go : (b : Bool) → is_tuple 0 ≡ b → b ≡ false
        go true q = let a = leb-true 4000000 0 (fst _ _ q) in absurd (omega arith)
        go false q = refl

pub first_sub : (k : ℕ) (vs : Vals ℕ) (f : ℕ → Val ℕ) → first_v k (vsubs vs f) ≡ vsubs (first_v k vs) f
first_sub zero vs f = refl
first_sub (suc k) vnil f = refl
first_sub (suc k) (vcons v vs) f = ap (vcons (vsub v f)) (first_sub k vs f)

pub behind_sub : (k : ℕ) (vs : Vals ℕ) (f : ℕ → Val ℕ) → behind_v k (vsubs vs f) ≡ vsubs (behind_v k vs) f
behind_sub zero vs f = refl
behind_sub (suc k) vnil f = refl
behind_sub (suc k) (vcons v vs) f = behind_sub k vs f

module _ (k : Counts) (ρ : Env) (h : every (wf_value k) ρ.vals ≡ true) where
  pub shape_value : (x : ℕ) → is_public x ≡ true → items is_name 11 (value ρ x) 1 ≡ done []
  unfolding wf_value is_value
  shape_value x p = shaped_items (value ρ x) (snd _ _ (fst _ _ (value_ok k ρ h x p)))

  pub env_value : (x : ℕ) → is_public x ≡ true → env_of ρ x ≡ val_of (value ρ x)
  unfolding env_of
  env_value x p = let l = leb-true x 63 p in ap (λ (b : Bool). cond b (val_of (value ρ x)) (nm 0)) (lt-ltb x 64 (omega arith))

  pub env_word : (x : ℕ) → is_public x ≡ true → is_name_in ρ x ≡ true → env_of ρ x ≡ nm (word ρ x)
  env_word x p e = env_value x p ∙ val_name (value ρ x) (shape_value x p) e

  pub name_word : (x : ℕ) → is_public x ≡ true → is_name_in ρ x ≡ true → the_name [] (env_of ρ x) ≡ word ρ x
  name_word x p e = ap (the_name []) (env_word x p e)

  pub tag_words : (g : ℕ) → leb g 65 ≡ true → tag_defined ρ g ≡ true → plain (iren (itag_of g) (λ n. the_name [] (env_of ρ n))) ≡ tag_out (tag_of ρ g)
  tag_words zero l e = refl
  tag_words (suc zero) l e = refl
  tag_words (suc (suc n)) l e = let a = leb-true (suc (suc n)) 65 l in ap (λ (x : ℕ). plain (ichild x)) (name_word n (le-leb n 63 (omega arith)) e)

  pub reads_subst : (v : List ℕ) (n : ℕ) → items is_public 5 v n ≡ done [] → reads (substitute ρ v) n ≡ vsubs (reads v n) (env_of ρ)
  unfolding items reads
  reads_subst [] n e = refl
  reads_subst (w ∷ ws) zero e = let z : suc (length ws) ≡ 0 = ap length (done_inj e) in absurd (omega arith)
  reads_subst (w ∷ ws) (suc n) e = go (is_public w) refl (is_tuple w) refl (reads_subst ws n) (reads_subst ws (arity w + n))
    where
      go : (t : Bool) → is_public w ≡ t → (u : Bool) → is_tuple w ≡ u → (items is_public 5 ws n ≡ done [] → reads (substitute ρ ws) n ≡ vsubs (reads ws n) (env_of ρ))
          → (items is_public 5 ws (arity w + n) ≡ done [] → reads (substitute ρ ws) (arity w + n) ≡ vsubs (reads ws (arity w + n)) (env_of ρ)) → reads (substitute ρ (w ∷ ws)) (suc n) ≡ vsubs (reads (w ∷ ws) (suc n)) (env_of ρ)
      go true a true b f g = absurd (false≢true (sym (tuple_not_public w b) ∙ a))
      go true a false b f g =
          ap (λ (t : Bool). reads (cond t (value ρ w) (w ∷ []) ++ substitute ρ ws) (suc n)) a ∙ value_front (value ρ w) (substitute ρ ws) n (shape_value w a)
          ∙ ap₂ vcons (sym (env_value w a)) (f (sym (items_leaf is_public 5 w ws n a) ∙ e)) ∙ sym (ap (λ (x : Vals ℕ). vsubs x (env_of ρ)) (reads_name w ws n b))
      go false a true b f g =
          let r = g (sym (items_tuple is_public 5 w ws n a b) ∙ e) in
          ap (λ (t : Bool). reads (cond t (value ρ w) (w ∷ []) ++ substitute ρ ws) (suc n)) a ∙ reads_tuple w (substitute ρ ws) n b
          ∙ ap (λ (x : Vals ℕ). vcons (tup (first_v (arity w) x)) (behind_v (arity w) x)) r
          ∙ ap₂ (λ (x y : Vals ℕ). vcons (tup x) y) (first_sub (arity w) (reads ws (arity w + n)) (env_of ρ)) (behind_sub (arity w) (reads ws (arity w + n)) (env_of ρ))
          ∙ sym (ap (λ (x : Vals ℕ). vsubs x (env_of ρ)) (reads_tuple w ws n b))
      go false a false b f g = absurd (clash (sym (items_bad is_public 5 w ws n a b) ∙ e))

  pub val_subst : (v : List ℕ) → items is_public 5 v 1 ≡ done [] → val_of (substitute ρ v) ≡ vsub (val_of v) (env_of ρ)
  unfolding val_of
  val_subst v e = ap head_v (reads_subst v 1 e) ∙ go (reads v 1) (write_back is_public 5 tuple_not_public v 1 e).1
    where
      go : (vs : Vals ℕ) → vcount vs ≡ 1 → head_v (vsubs vs (env_of ρ)) ≡ vsub (head_v vs) (env_of ρ)
      go vnil q = absurd (omega arith)
      go (vcons v vs) q = refl

pub single : (w : ℕ) → w < 4000000 → val_of (w ∷ []) ≡ nm w
unfolding val_of
single w s = ap head_v (reads_name w [] 0 (go (is_tuple w) refl))
  where
    go : (b : Bool) → is_tuple w ≡ b → b ≡ false
    go true q = let a = leb-true 4000000 w (fst _ _ q) in absurd (omega arith)
    go false q = refl

-- a name more in force
pub env_new : (ρ : Env) (x w : ℕ) → Sized ρ → is_public x ≡ true → w < 4000000 → env_of (extend ρ (x ∷ []) ((w ∷ []) ∷ [])) ≡ with_pat (named x) (λ z. nm w) (env_of ρ)
unfolding env_of
env_new ρ x w l p s = fun_ext (λ n. go n (ltb n 64) refl (eqb x n) refl)
  where
    as-name : val_of (w ∷ []) ≡ nm w
    as-name = single w s

    go : (n : ℕ) (b : Bool) → ltb n 64 ≡ b → (c : Bool) → eqb x n ≡ c → cond b (val_of (value (extend ρ (x ∷ []) ((w ∷ []) ∷ [])) n)) (nm 0) ≡ value_or {B = Unit {0}} (λ z. nm w) (cond c (some tt) none) (cond b (val_of (value ρ n)) (nm 0))
    go n true q true r = ap val_of (look_append ρ.names ρ.vals (x ∷ []) ((w ∷ []) ∷ []) n (n ∷ []) l ∙ ap (λ (t : Bool). cond t (w ∷ []) (value ρ n)) r) ∙ as-name
    go n true q false r = ap val_of (look_append ρ.names ρ.vals (x ∷ []) ((w ∷ []) ∷ []) n (n ∷ []) l ∙ ap (λ (t : Bool). cond t (w ∷ []) (value ρ n)) r)
    go n false q true r =
        let a = leb-true x 63 p in
        let b = eqb-true x n r in
        let c = ltb-false n 64 q in
        absurd (omega arith)
    go n false q false r = refl
