-- What holds between two listing steps, and that a step keeps it. Assumes nothing.
use mathlib.Core.List.{List, [], ◌∷◌}
use mathlib.Core.Logic.{◌⊎◌, inl, inr, ⊎_elim}
use mathlib.Core.Path.{◌∙◌, ◌≡◌, refl, sym}
use Prim.Native.Nat.{◌<◌, ◌≤◌, ℕ}
use native.Mathlib.Omega.{arith}
use lib.ListN.{get_or, length}
use Rattle.consensus.specs.Among.{In}
use Rattle.consensus.specs.Listing.{list_all, list_one, raise}
use Rattle.consensus.specs.Table.{Cert, State, highest}
use Rattle.demands.specs.Demand.{Heights}
use Rattle.consensus.proofs.Listing.{clear_in, distinct-clear, raise-at, raise-is, raise-size, size-one, stays-means}
use Rattle.demands.proofs.Due.{Sane}

-- between listings: P says what was listed
pub record Ok (s : State) (P : Cert → Type 0) : Type 0 where
  pub sane : Sane s.held
  pub member : (c : Cert) → In c s.held → c.origin < length s.last
  pub low : (c : Cert) → P c → c.round ≤ get_or s.last c.origin 0
  pub rested : (c : Cert) → In c s.held → P c → c.round ≡ get_or s.last c.origin 0
  -- a held one of round 0 is at its origin's last committed round
  pub base : (c : Cert) → In c s.held → c.round ≡ 0 → get_or s.last c.origin 0 ≡ 0

pub ok-map : (s : State) (P Q : Cert → Type 0) → ((c : Cert) → Q c → P c) → Ok s P → Ok s Q
ok-map s P Q g k =
    record { sane = k.sane; member = k.member; low = λ c q. k.low c (g c q); rested = λ c h q. k.rested c h (g c q); base = k.base }

pub heights-map : (l : List ℕ) (P Q : Cert → Type 0) → ((c : Cert) → P c → Q c) → ((c : Cert) → Q c → P c) → Heights P l → Heights Q l
heights-map l P Q f g k =
    record { most = λ c q. k.most c (g c q); some = λ o. ⊎_elim (λ z. inl z) (λ x. inr (x.0, f x.0 x.1, x.2, x.3)) (k.some o) }

pub heights-one : (l : List ℕ) (P : Cert → Type 0) (c : Cert) → c.origin < length l → Heights P l → Heights (λ d. (d ≡ c) ⊎ P d) (raise c l)
heights-one l P c lt k =
    record {
      most = λ d q.
          ⊎_elim (λ z. rw z (let m = raise-at c l lt in omega arith))
          (λ p. let m = raise-is c l d.origin lt in let n = k.most d p in omega arith) q;
      some = λ o. top' o (raise-is c l o lt).1;
    }
  where
    Goal : ℕ → Type 0
    Goal o = (get_or (raise c l) o 0 ≡ 0) ⊎ ((d : Cert) × ((d ≡ c) ⊎ P d) × (d.origin ≡ o) × (d.round ≡ get_or (raise c l) o 0))

    top' : (o : ℕ) → (get_or (raise c l) o 0 ≡ get_or l o 0) ⊎ ((o ≡ c.origin) × (get_or (raise c l) o 0 ≡ c.round)) → Goal o
    top' o (inl e) = ⊎_elim (λ z. inl (e ∙ z)) (λ q. inr (q.0, inr q.1, q.2, q.3 ∙ sym e)) (k.some o)
    top' o (inr e) = inr (c, inl refl, sym e.0, sym e.1)

module _ (depth : ℕ) where
  pub list-one : (s : State) (P : Cert → Type 0) (c : Cert) → c.origin < length s.last → Ok s P → Ok (list_one depth c s) (λ d. (d ≡ c) ⊎ P d)
  unfolding list_one
  list-one s P c lt k =
      let lasts = raise c s.last in
      let keep = clear_in depth lasts (highest lasts) s.held in
      let low' : (d : Cert) → (d ≡ c) ⊎ P d → d.round ≤ get_or lasts d.origin 0 =
      λ d q. ⊎_elim (λ z. rw z (let m = raise-at c s.last lt in omega arith))
      (λ p. let m = raise-is c s.last d.origin lt in let n = k.low d p in omega arith) q in
      record {
        sane = record {
          distinct = distinct-clear depth lasts (highest lasts) s.held k.sane.distinct;
          ground = λ x h e. k.sane.ground x (keep x h).0 e;
        };
        member = λ x h. let m = k.member x (keep x h).0 in rw (raise-size c s.last) m;
        low = low';
        rested = λ d h q.
            let m = low' d q in
            let n = (stays-means depth lasts (highest lasts) d (keep d h).1).0 in
            omega arith;
        base = λ d h z. let n = (stays-means depth lasts (highest lasts) d (keep d h).1).0 in omega arith;
      }

  pub heights-step : (s : State) (P : Cert → Type 0) (x : Cert) → x.origin < length s.last → Heights P s.last → Heights (λ d. (d ≡ x) ⊎ P d) (list_one depth x s).last
  unfolding list_one
  heights-step s P x lt H = heights-one s.last P x lt H

  pub Ok-list_all : (w : List Cert) (s : State) (P : Cert → Type 0) → ((c : Cert) → In c w → c.origin < length s.last) → Ok s P
      → Ok (list_all depth w s) (λ d. In d w ⊎ P d)
  unfolding list_all
  Ok-list_all [] s P m k = ok-map s P (λ d. In d [] ⊎ P d) (λ c q. ⊎_elim (λ z. absurd z) (λ p. p) q) k
  Ok-list_all (c ∷ w) s P m k =
      let s' = list_one depth c s in
      let one = list-one s P c (m c (inl refl)) k in
      let more = Ok-list_all w s' (λ d. (d ≡ c) ⊎ P d) (λ d h. size-one depth c s d.origin (m d (inr h))) one in
      ok-map (list_all depth w s') (λ d. In d w ⊎ ((d ≡ c) ⊎ P d)) (λ d. In d (c ∷ w) ⊎ P d)
      (λ d q. ⊎_elim (λ h. ⊎_elim (λ z. inr (inl z)) (λ i. inl i) h) (λ p. inr (inr p)) q)
      more

  pub heights-all : (w : List Cert) (s : State) (P : Cert → Type 0) → ((c : Cert) → In c w → c.origin < length s.last) → Heights P s.last
      → Heights (λ d. In d w ⊎ P d) (list_all depth w s).last
  unfolding list_all list_one
  heights-all [] s P m k = heights-map s.last P (λ d. In d [] ⊎ P d) (λ c p. inr p) (λ c q. ⊎_elim (λ z. absurd z) (λ p. p) q) k
  heights-all (c ∷ w) s P m k =
      let s' = list_one depth c s in
      let one = heights-one s.last P c (m c (inl refl)) k in
      let more = heights-all w s' (λ d. (d ≡ c) ⊎ P d) (λ d h. size-one depth c s d.origin (m d (inr h))) one in
      heights-map (list_all depth w s').last (λ d. In d w ⊎ ((d ≡ c) ⊎ P d)) (λ d. In d (c ∷ w) ⊎ P d)
      (λ d q. ⊎_elim (λ h. inl (inr h)) (λ q'. ⊎_elim (λ z. inl (inl z)) (λ p. inr p) q') q)
      (λ d q. ⊎_elim (λ h. ⊎_elim (λ z. inr (inl z)) (λ i. inl i) h) (λ p. inr (inr p)) q)
      more
