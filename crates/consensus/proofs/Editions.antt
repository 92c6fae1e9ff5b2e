-- The two editions are falling choices of candidate rounds. Assumes nothing.
use mathlib.Core.Bool.{Bool, false, true}
use mathlib.Core.List.{List, ◌∷◌}
use mathlib.Core.Logic.{⊎_elim}
use mathlib.Core.Path.{◌≡◌, ap, refl}
use Prim.Native.Nat.{◌+◌, ◌-◌, ◌<◌, ◌≤◌, suc, zero, ℕ}
use native.Mathlib.Nat.{not-suc-le-zero}
use native.Mathlib.Omega.{arith}
use borrow.Author.Tests.{leb-true}
use lib.Dec.{leb}
use Rattle.consensus.specs.Among.{In}
use Rattle.consensus.specs.Candidates.{Descending, Falling, edition1, edition2, every_second}

-- the examples come first: a wrong definition is refused by a case, where there is one

pub second-in : (n r low q : ℕ) → In q (every_second n r low) → (low ≤ q) × (q ≤ r)
unfolding every_second
second-in zero r low q h = absurd h
second-in (suc n) r low q h = go (second-in n (r - 2) low q) (leb low r) refl h
  where
    go : (In q (every_second n (r - 2) low) → (low ≤ q) × (q ≤ r - 2)) → (b : Bool) → leb low r ≡ b → In q (every_second (suc n) r low) → (low ≤ q) × (q ≤ r)
    go ih true e i =
        ⊎_elim (λ z. let l = leb-true low r e in (omega arith, omega arith)) (λ j. let y = ih j in (y.0, let z = y.1 in omega arith)) (rw (e, every_second) at i)
    go ih false e i = absurd (rw (e, every_second) at i)

pub second-falls : (n r low : ℕ) → 2 ≤ low → Descending (every_second n r low)
unfolding every_second
second-falls zero r low two = tt
second-falls (suc n) r low two = go (second-falls n (r - 2) low two) (leb low r) refl
  where
    go : Descending (every_second n (r - 2) low) → (b : Bool) → leb low r ≡ b → Descending (every_second (suc n) r low)
    go ih true e = let l = leb-true low r e in rw (e, every_second) ((λ q i. let y = second-in n (r - 2) low q i in let z = y.1 in omega arith), ih)
    go ih false e = rw (e, every_second) tt

-- the bound on the turns is never met: any that is above r gives the same
pub second-fuel : (n m r low : ℕ) → 2 ≤ low → r < n → r < m → every_second n r low ≡ every_second m r low
unfolding every_second
second-fuel zero m r low two h k = absurd (not-suc-le-zero h)
second-fuel (suc n) zero r low two h k = absurd (not-suc-le-zero k)
second-fuel (suc n) (suc m) r low two h k = go (λ l. second-fuel n m (r - 2) low two (omega arith) (omega arith)) (leb low r) refl
  where
    go : (low ≤ r → every_second n (r - 2) low ≡ every_second m (r - 2) low) → (b : Bool) → leb low r ≡ b → every_second (suc n) r low ≡ every_second (suc m) r low
    go ih true e = rw (e, every_second) (ap (λ (v : List ℕ). r ∷ v) (ih (leb-true low r e)))
    go ih false e = rw (e, every_second)

pub falling1 : Falling edition1
unfolding edition1
falling1 =
    record {
      below = λ l c r i. let y = second-in l (l - 1) (c + 2) r i in let p = y.0 in let q = y.1 in omega arith;
      above = λ l c r i. let y = second-in l (l - 1) (c + 2) r i in let p = y.0 in omega arith;
      falls = λ l c. second-falls l (l - 1) (c + 2) (omega arith);
    }

pub falling2 : Falling edition2
unfolding edition2
falling2 =
    record {
      below = λ l c r i. let y = second-in l (l - 2) (c + 2) r i in let p = y.0 in let q = y.1 in omega arith;
      above = λ l c r i. let y = second-in l (l - 2) (c + 2) r i in let p = y.0 in omega arith;
      falls = λ l c. second-falls l (l - 2) (c + 2) (omega arith);
    }
