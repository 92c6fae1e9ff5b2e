-- A walk on a last-in first-out pile, over any graph on the places below n: `parents x` are the places that x puts on, in order.
-- It gives each place that the root reaches, and each once. Assumes nothing.
use mathlib.Core.Bool.{Bool, false, true}
use mathlib.Core.List.{List, [], ◌∷◌}
use mathlib.Core.Logic.{◌⊎◌, inl, inr, ⊎_elim}
use mathlib.Core.Path.{◌∙◌, ◌≡◌, ap, refl, subst, sym}
use Prim.Native.Nat.{◌+◌, ◌<◌, ◌≤◌, suc, zero, ℕ}
use native.Mathlib.Omega.{arith}
use borrow.Author.Tests.{eqb-false, eqb-true}
use lib.Dec.{eqb}
use lib.ListN.{get_or, length, length-replicate, length-set, replicate, set}
use Rattle.consensus.specs.Among.{In, Once}
use Rattle.consensus.specs.Walk.{Pile, put_all, put_one, walk}
use Rattle.consensus.proofs.Marks.{Up, ones, ones-le, ones_none, ones-set, up-back, up_more, up-set, zeros}

-- a chain of parents from r
pub data Reach (parents : ℕ → List ℕ) (r : ℕ) : ℕ → Type 0 where
  here : Reach parents r r
  onward : {x j : ℕ} → Reach parents r x → In j (parents x) → Reach parents r j

module _ (parents : ℕ → List ℕ) (n r : ℕ) (low : (x j : ℕ) → In j (parents x) → j < n) where
  -- what holds between two steps: old are those whose parents are all up
  record Mid (old done : List ℕ) (p : Pile) : Type 0 where
    size : length p.flags ≡ n
    seen : (j : ℕ) → Up p.flags j → In j done ⊎ In j p.pile
    on : (j : ℕ) → In j p.pile → Up p.flags j
    off : (j : ℕ) → In j done → Up p.flags j
    once : Once p.pile
    apart : (j : ℕ) → In j p.pile → In j done → ⊥
    parents_up : (x j : ℕ) → In x old → In j (parents x) → Up p.flags j
    reached : (j : ℕ) → Up p.flags j → Reach parents r j
    count : length done + length p.pile ≡ ones p.flags

  -- what putting on leaves
  record More (old done ks : List ℕ) (p q : Pile) : Type 0 where
    mid : Mid old done q
    all : (j : ℕ) → In j ks → Up q.flags j
    kept : (j : ℕ) → In j p.pile → In j q.pile
    still : (j : ℕ) → Up p.flags j → Up q.flags j

  one : (old done : List ℕ) (p : Pile) (j : ℕ) → j < n → Reach parents r j → Mid old done p → More old done (j ∷ []) p (put_one j p)
  unfolding put_one
  one old done p j lt rj m = go (eqb (get_or p.flags j 0) 0) refl
    where
      lf : j < length p.flags
      lf = rw m.size lt

      go : (b : Bool) → eqb (get_or p.flags j 0) 0 ≡ b → More old done (j ∷ []) p (put_one j p)
      go false e =
          rw (e, put_one) (record {
            mid = m;
            all = λ i h. ⊎_elim (λ q. subst (λ (k : ℕ). Up p.flags k) (sym q) (eqb-false (get_or p.flags j 0) 0 e)) (λ h'. absurd h') h;
            kept = λ i h. h;
            still = λ i h. h;
          })
      go true e =
          let z : get_or p.flags j 0 ≡ 0 = eqb-true (get_or p.flags j 0) 0 e in
          rw (e, put_one) (record {
            mid = record {
              size = length-set p.flags j 1 ∙ m.size;
              seen = λ i u. ⊎_elim (λ q. inr (inl q)) (λ v. ⊎_elim (λ d. inl d) (λ h. inr (inr h)) (m.seen i v)) (up-back p.flags j i u);
              on = λ i h. ⊎_elim (λ q. subst (λ (k : ℕ). Up (set p.flags j 1) k) (sym q) (up-set p.flags j lf)) (λ h'. up_more p.flags j i lf (m.on i h')) h;
              off = λ i h. up_more p.flags j i lf (m.off i h);
              once = ((λ h. m.on j h z), m.once);
              apart = λ i h d. ⊎_elim (λ q. m.off j (subst (λ (k : ℕ). In k done) q d) z) (λ h'. m.apart i h' d) h;
              parents_up = λ x i h k. up_more p.flags j i lf (m.parents_up x i h k);
              reached = λ i u. ⊎_elim (λ q. subst (λ (k : ℕ). Reach parents r k) (sym q) rj) (λ v. m.reached i v) (up-back p.flags j i u);
              count = omega (arith, m.count, ones-set p.flags j lf z);
            };
            all = λ i h. ⊎_elim (λ q. subst (λ (k : ℕ). Up (set p.flags j 1) k) (sym q) (up-set p.flags j lf)) (λ h'. absurd h') h;
            kept = λ i h. inr h;
            still = λ i u. up_more p.flags j i lf u;
          })

  many : (old done ks : List ℕ) (p : Pile) → ((j : ℕ) → In j ks → (j < n) × Reach parents r j) → Mid old done p → More old done ks p (put_all ks p)
  unfolding put_all
  many old done [] p g m = record { mid = m; all = λ j h. absurd h; kept = λ j h. h; still = λ j h. h }
  many old done (k ∷ ks) p g m =
      let a = one old done p k (g k (inl refl)).0 (g k (inl refl)).1 m in
      let b = many old done ks (put_one k p) (λ j h. g j (inr h)) a.mid in
      record {
        mid = b.mid;
        all = λ j h. ⊎_elim (λ q. b.still j (a.all j (inl q))) (λ h'. b.all j h') h;
        kept = λ j h. b.kept j (a.kept j h);
        still = λ j h. b.still j (a.still j h);
      }

  -- the rest of the walk
  record Rest (done : List ℕ) (p : Pile) (w : List ℕ) : Type 0 where
    sound : (j : ℕ) → In j w → Reach parents r j
    whole : (j : ℕ) → In j p.pile → In j w
    closed : (x j : ℕ) → In x done ⊎ In x w → In j (parents x) → In j done ⊎ In j w
    once : Once w
    fresh : (j : ℕ) → In j w → In j done → ⊥

  pop : (done : List ℕ) (p : Pile) (x : ℕ) (xs : List ℕ) → p.pile ≡ x ∷ xs → Mid done done p → Mid done (x ∷ done) (record { pile = xs; flags = p.flags })
  pop done p x xs e m =
      let h : (j : ℕ) → In j (x ∷ xs) → In j p.pile = λ j q. subst (λ (l : List ℕ). In j l) (sym e) q in
      let o : Once (x ∷ xs) = subst Once e m.once in
      record {
        size = m.size;
        seen = λ j u. ⊎_elim (λ d. inl (inr d)) (λ q. ⊎_elim (λ z. inl (inl z)) (λ q'. inr q') (subst (λ (l : List ℕ). In j l) e q)) (m.seen j u);
        on = λ j q. m.on j (h j (inr q));
        off = λ j q. ⊎_elim (λ z. m.on j (h j (inl z))) (λ d. m.off j d) q;
        once = o.1;
        apart = λ j q d. ⊎_elim (λ z. o.0 (subst (λ (k : ℕ). In k xs) z q)) (λ d'. m.apart j (h j (inr q)) d') d;
        parents_up = m.parents_up;
        reached = m.reached;
        count = omega (arith, m.count, ap length e);
      }

  rest : (k : ℕ) (done pl fs : List ℕ) → Mid done done (record { pile = pl; flags = fs }) → n ≤ k + length done
      → Rest done (record { pile = pl; flags = fs }) (walk parents k (record { pile = pl; flags = fs }))
  unfolding walk
  rest zero done [] fs m f =
      record {
        sound = λ j h. absurd h;
        whole = λ j h. absurd h;
        closed = λ x j h k. ⊎_elim (λ d. ⊎_elim (λ i. inl i) (λ i. absurd i) (m.seen j (m.parents_up x j d k))) (λ i. absurd i) h;
        once = tt;
        fresh = λ j h d. h;
      }
  rest zero done (x ∷ xs) fs m f = absurd (omega (arith, m.count, ones-le fs, m.size))
  rest (suc k) done [] fs m f =
      record {
        sound = λ j h. absurd h;
        whole = λ j h. absurd h;
        closed = λ x j h k. ⊎_elim (λ d. ⊎_elim (λ i. inl i) (λ i. absurd i) (m.seen j (m.parents_up x j d k))) (λ i. absurd i) h;
        once = tt;
        fresh = λ j h d. h;
      }
  rest (suc k) done (x ∷ xs) fs m f =
      let rx : Reach parents r x = m.reached x (m.on x (inl refl)) in
      let p : Pile = record { pile = xs; flags = fs } in
      let a : More done (x ∷ done) (parents x) p (put_all (parents x) p) =
      many done (x ∷ done) (parents x) p (λ j h. (low x j h, onward rx h)) (pop done (record { pile = x ∷ xs; flags = fs }) x xs refl m) in
      let q : Pile = put_all (parents x) p in
      let b : Mid (x ∷ done) (x ∷ done) q =
      record {
        size = a.mid.size;
        seen = a.mid.seen;
        on = a.mid.on;
        off = a.mid.off;
        once = a.mid.once;
        apart = a.mid.apart;
        parents_up = λ y j h i. ⊎_elim (λ z. a.all j (subst (λ (v : ℕ). In j (parents v)) z i)) (λ h'. a.mid.parents_up y j h' i) h;
        reached = a.mid.reached;
        count = a.mid.count;
      } in
      let c : Rest (x ∷ done) q (walk parents k q) = rest k (x ∷ done) q.pile q.flags b (omega arith) in
      record {
        sound = λ j h. ⊎_elim (λ z. subst (λ (v : ℕ). Reach parents r v) (sym z) rx) (λ h'. c.sound j h') h;
        whole = λ j h. ⊎_elim (λ z. inl z) (λ h'. inr (c.whole j (a.kept j h'))) h;
        closed = λ y j h i.
            ⊎_elim (λ d. ⊎_elim (λ z. inr (inl z)) (λ d'. inl d') d) (λ v. inr (inr v))
            (c.closed y j (⊎_elim (λ d. inl (inr d)) (λ v. ⊎_elim (λ z. inl (inl z)) (λ v'. inr v') v) h) i);
        once = ((λ h. c.fresh x h (inl refl)), c.once);
        fresh = λ j h d. ⊎_elim (λ z. m.apart j (inl z) d) (λ h'. c.fresh j h' (inr d)) h;
      }

  start : r < n → Mid [] [] (record { pile = r ∷ []; flags = set (replicate n 0) r 1 })
  start lt =
      let z : get_or {A = ℕ} (replicate n 0) r 0 ≡ 0 = zeros n r in
      let lf : r < length {A = ℕ} (replicate n 0) = rw (length-replicate {A = ℕ} n 0) lt in
      let only : (j : ℕ) → Up (set (replicate n 0) r 1) j → j ≡ r = only' in
      record {
        size = length-set (replicate n 0) r 1 ∙ length-replicate {A = ℕ} n 0;
        seen = λ j u. inr (inl (only j u));
        on = λ j h. ⊎_elim (λ q. subst (λ (k : ℕ). Up (set (replicate n 0) r 1) k) (sym q) (up-set (replicate n 0) r lf)) (λ h'. absurd h') h;
        off = λ j h. absurd h;
        once = ((λ h. h), tt);
        apart = λ j h d. d;
        parents_up = λ x j h k. absurd h;
        reached = λ j u. subst (λ (k : ℕ). Reach parents r k) (sym (only j u)) here;
        count = sym (ones-set (replicate n 0) r lf z ∙ ap suc (ones_none n));
      }
    where
      only' : (j : ℕ) → Up (set (replicate n 0) r 1) j → j ≡ r
      only' j u = ⊎_elim (λ q. q) (λ v. absurd (v (zeros n j))) (up-back (replicate n 0) r j u)

  -- the walk from r gives each once, and exactly those that r reaches
  pub record Walked (w : List ℕ) : Type 0 where
    pub each : Once w
    pub only : (j : ℕ) → In j w → Reach parents r j
    pub all : (j : ℕ) → Reach parents r j → In j w

  come : (w : List ℕ) → Rest [] (record { pile = r ∷ []; flags = set (replicate n 0) r 1 }) w → (j : ℕ) → Reach parents r j → In j w
  come w c j here = c.whole r (inl refl)
  come w c j (onward {x} h i) = ⊎_elim (λ d. absurd d) (λ v. v) (c.closed x j (inr (come w c x h)) i)

  pub dfs : r < n → Walked (walk parents n (record { pile = r ∷ []; flags = set (replicate n 0) r 1 }))
  dfs lt =
      let c = rest n [] (r ∷ []) (set (replicate n 0) r 1) (start lt) (omega arith) in
      record { each = c.once; only = c.sound; all = come (walk parents n (record { pile = r ∷ []; flags = set (replicate n 0) r 1 })) c }
