-- Forwarders with copies: their names, their marks, and what they send on.
use mathlib.Core.Path.{◌≡◌, refl, ap, ◌∙◌}
use mathlib.Core.Logic.{inl, inr}
use mathlib.Core.List.{List, [], ◌∷◌, ◌++◌, map}
use Prim.Native.Nat.{ℕ}
use Rattle.calculus.specs.Syntax.{Val, nm, var, Name, ITag, within, parent, child, plain, iren, Proc, par, out, AllI, AllN, outer, sub, Defined, remark}
use Rattle.calculus.specs.Transitions.{inst, InstOk}
use Rattle.calculus.specs.Tree.{Item}
use Rattle.calculus.specs.Wrappers.{copying, forward_with}
use Rattle.calculus.proofs.Parallels.{Each}
use Rattle.calculus.proofs.Bags.{item, Bag, bag_refl, bag_trans, bag_cons, bag_par}

copying_all : {T : Type 0} (u : T) (cs : List ℕ) (P : Proc T (var ∷ [])) (A : ℕ → Type 0) → Each A cs → AllN P (outer A) → AllN (copying [] u cs P) (outer A)
unfolding AllN
copying_all u [] P A h k = k
copying_all u (c ∷ cs) P A h k = ((h.0, tt, tt), copying_all u cs P A h.1 k)

-- a forwarder's body
abbrev pub body : {M : Type 0} → M → List ℕ → ℕ → ITag ℕ → Proc M (var ∷ [])
body u cs z o = copying [] u cs (out {s = var ∷ []} u (inr z) (plain (iren o inr)) (nm (inl tt)))

-- a forwarder's names are its channels, those of its tags, and those of its copies
pub forward_all : {T : Type 0} (t u : T) (cs : List ℕ) (x : ℕ) (i : ITag ℕ) (z : ℕ) (o : ITag ℕ) (A : ℕ → Type 0) → A x → AllI i A → Each A cs → A z → AllI o A → AllN (forward_with [] t u cs x i z o) A
unfolding AllN
forward_all t u cs x i z o A hx hi hc hz ho = (hx, hi, copying_all u cs (body u [] z o) A hc (hz, tag o ho, tt))
  where
    tag : (o : ITag ℕ) → AllI o A → AllI {N = Name (var ∷ [])} (iren o inr) (outer A)
    tag within h = tt
    tag parent h = tt
    tag (child n) h = h

-- what is sent on: copies of v, and P last
abbrev pub sends : {M : Type 0} → M → List ℕ → Val ℕ → Proc M [] → Proc M []
sends u [] v P = P
sends u (c ∷ cs) v P = par (out u c (plain parent) v) (sends u cs v P)

copying_inst : {M : Type 0} (u : M) (cs : List ℕ) (v : Val ℕ) (P : Proc M (var ∷ [])) → inst {p = var} (copying [] u cs P) (λ y. v) ≡ sends u cs v (inst {p = var} P (λ y. v))
unfolding sub
copying_inst u [] v P = refl
copying_inst u (c ∷ cs) v P = ap (par (out u c (plain parent) v)) (copying_inst u cs v P)

copying_defined : {M : Type 0} (u : M) (cs : List ℕ) (v : Val ℕ) (P : Proc M (var ∷ [])) → InstOk {p = var} P (λ y. v) → InstOk {p = var} (copying [] u cs P) (λ y. v)
unfolding Defined
copying_defined u [] v P h = h
copying_defined u (c ∷ cs) v P h = ((tt, tt), copying_defined u cs v P h)

-- the value put in
pub body_inst : {M : Type 0} (u : M) (cs : List ℕ) (z : ℕ) (o : ITag ℕ) (v : Val ℕ) → inst {p = var} (body u cs z o) (λ y. v) ≡ sends u cs v (out u z (plain o) v)
unfolding sub
body_inst u cs z o v = copying_inst u cs v (body u [] z o) ∙ ap (sends u cs v) (go o)
  where
    go : (o : ITag ℕ) → inst {p = var} (body u [] z o) (λ y. v) ≡ out u z (plain o) v
    go within = refl
    go parent = refl
    go (child n) = refl

pub body_defined : {M : Type 0} (u : M) (cs : List ℕ) (z : ℕ) (o : ITag ℕ) (v : Val ℕ) → InstOk {p = var} (body u cs z o) (λ y. v)
unfolding Defined
body_defined u cs z o v = copying_defined u cs v (body u [] z o) (go o)
  where
    go : (o : ITag ℕ) → InstOk {p = var} (body u [] z o) (λ y. v)
    go within = (tt, tt)
    go parent = (tt, tt)
    go (child n) = (tt, tt)

pub sends_marks : {M U : Type 0} (h : M → U) (u : M) (cs : List ℕ) (v : Val ℕ) (P : Proc M []) → remark h (sends u cs v P) ≡ sends (h u) cs v (remark h P)
unfolding remark
sends_marks h u [] v P = refl
sends_marks h u (c ∷ cs) v P = ap (par (out (h u) c (plain parent) v)) (sends_marks h u cs v P)

-- the copies as items
abbrev pub copy_items : {M : Type 0} → M → List ℕ → Val ℕ → List (Item M)
copy_items u cs v = map (λ c. item 0 (out u c (plain parent) v)) cs

pub sends_bag : {M : Type 0} (u : M) (cs : List ℕ) (v : Val ℕ) (P : Proc M []) (X : List (Item M)) → Bag (item 0 (sends u cs v P) ∷ X) (copy_items u cs v ++ item 0 P ∷ X)
sends_bag u [] v P X = bag_refl
sends_bag u (c ∷ cs) v P X = bag_trans (bag_par 0 (out u c (plain parent) v) (sends u cs v P) X) (bag_cons (item 0 (out u c (plain parent) v)) (sends_bag u cs v P X))
