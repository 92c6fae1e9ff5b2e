-- Leaders by their rounds, each found by one scan of the table. Assumes nothing.
use mathlib.Core.Path.{◌≡◌, refl, sym, ap, ◌∙◌}
use mathlib.Core.Bool.{Bool, true, false, not, cond, ◌&&◌}
use mathlib.Core.List.{List, [], ◌∷◌}
use Prim.Native.Nat.{ℕ, suc, ◌+◌, ◌-◌, ◌/◌, ◌%◌, ◌≤◌, ◌<◌, max, min}
use native.Mathlib.Omega.{arith}
use borrow.Author.Tests.{eq-eqb, ne_eqb, le-leb, lt-leb, not-true, not-false, eqb-true, eqb-false}
use lib.Dec.{eqb, leb}
use lib.ListN.{length, get_or}
use Rattle.std.specs.Prelude.{Option, Some, None, IfSome, unwrap_or}
use Rattle.std.specs.List.{cons_option, filter_map, fold, range_with_len, reduce}
use Rattle.wire.proofs.Laws.{true-not-false}
use Rattle.table.specs.Rows.{count_of}
use Rattle.config.specs.Committee.{leader_place}
use Rattle.consensus.specs.Table.{Cert, cert_at, none, pair_place}
use Rattle.consensus.specs.Leaders.{Agreed}
use Rattle.consensus.proofs.Scan.{Candidate, candidate, candidate-is, candidate-when, next_round}
use Rattle.consensus.proofs.Settling.{lower_of, lower-none, none-lower, lower-both, lower-assoc, lowest_round}
use Rattle.held.specs.Rows.{held_of}
use Rattle.held.proofs.Laws.{length-held}
use Rattle.leaders.specs.Setup.{agreed_of}
use Rattle.leaders.specs.Taking.{leader_at}
use Rattle.leaders.proofs.Agreeing.{agreed-many}

-- whose turn it is
pub turn-is : (s : List ℕ) (round n o : ℕ) → n ≡ (length s - 8) / 69 → o ≡ leader_place n round → o ≡ leader_place (length (agreed_of s).stakes) round
turn-is s round n o m e = e ∙ ap (λ (k : ℕ). leader_place k round) (m ∙ sym (agreed-many s))

-- a round's leader
pub leader-is : (a : Agreed) (held : List Cert) (round o n : ℕ) (f : Option ℕ) → o ≡ leader_place (length a.stakes) round → unwrap_or f n ≡ pair_place o round held → unwrap_or f n ≡ leader_at a held round
unfolding leader_at
leader-is a held round o n f e g = g ∙ ap (λ (k : ℕ). pair_place k round held) e

-- ---- whether one is a candidate, test by test

falls-3 : (a b d : Bool) → ((a && b) && (false && d)) ≡ false
falls-3 true true d = refl
falls-3 true false d = refl
falls-3 false b d = refl

falls-4 : (a b c : Bool) → ((a && b) && (c && false)) ≡ false
falls-4 a b true = falls-3 a b true
falls-4 a b false = falls-3 a b false

falls-2 : (a c : Bool) → ((a && false) && c) ≡ false
falls-2 true c = refl
falls-2 false c = refl

all-but-1 : (a : Bool) → ((a && true) && (true && true)) ≡ a
all-but-1 true = refl
all-but-1 false = refl

module _ (s : List ℕ) (low r x : ℕ) (c : Cert) (ex : x ≡ c.round) where
  abbrev leads : Bool
  leads = eqb c.origin (leader_place (length (agreed_of s).stakes) c.round)

  abbrev second : Bool
  second = eqb (c.round % 2) (r % 2)

  pub round-below : x < low → false ≡ candidate (agreed_of s) low r c
  unfolding candidate
  round-below h = let t : leb low c.round ≡ false = lt-leb low c.round (omega arith) in sym (rw t (falls-3 leads second (leb c.round r)))

  module _ (floor : low ≤ x) where
    pub round-above : r < x → false ≡ candidate (agreed_of s) low r c
    unfolding candidate
    round-above h = let t : leb c.round r ≡ false = lt-leb c.round r (omega arith) in sym (rw t (falls-4 leads second (leb low c.round)))

    module _ (roof : x ≤ r) where
      pub round-between : (x % 2 ≡ r % 2 → ⊥) → false ≡ candidate (agreed_of s) low r c
      unfolding candidate
      round-between h =
          let t : second ≡ false = ne_eqb (c.round % 2) (r % 2) (λ z. h (ap (λ (k : ℕ). k % 2) ex ∙ z)) in
          sym (rw t (falls-2 leads (leb low c.round && leb c.round r)))

      pub leads-or-not : x % 2 ≡ r % 2 → (o l : ℕ) → o ≡ c.origin → l ≡ leader_place (length (agreed_of s).stakes) x → eqb o l ≡ candidate (agreed_of s) low r c
      unfolding candidate
      leads-or-not h o l eo el =
          let p : l ≡ leader_place (length (agreed_of s).stakes) c.round = el ∙ ap (leader_place (length (agreed_of s).stakes)) ex in
          let t₁ : leb low c.round ≡ true = le-leb low c.round (omega arith) in
          let t₂ : leb c.round r ≡ true = le-leb c.round r (omega arith) in
          let t₃ : second ≡ true = eq-eqb (c.round % 2) (r % 2) (ap (λ (k : ℕ). k % 2) (sym ex) ∙ h) in
          sym (rw (t₁, t₂, t₃, ← eo, ← p) (all-but-1 (eqb o l)))

-- ---- the rounds of the candidates

abbrev pub round_in : Agreed → ℕ → ℕ → Cert → Option ℕ
round_in a low r c = cond (candidate a low r c) (Some c.round) None

module _ (a : Agreed) (low r : ℕ) (c : Cert) (b : Bool) (e : b ≡ candidate a low r c) where
  pub its-round : b ≡ true → (x : ℕ) → x ≡ c.round → x ≡ next_round a low r (c ∷ [])
  unfolding next_round
  its-round h x f = rw (sym e ∙ h, next_round) (omega arith)

  pub no-round : b ≡ false → 0 ≡ next_round a low r (c ∷ [])
  unfolding next_round
  no-round h = rw (sym e ∙ h, next_round)

  pub round-there : not b ≡ false → (x : ℕ) → x ≡ c.round → Some x ≡ cond (candidate a low r c) (Some c.round) None
  round-there h x f = let t : candidate a low r c ≡ true = sym e ∙ not-false b h in rw (t, f)

  pub round-absent : not b ≡ true → None ≡ cond (candidate a low r c) (Some c.round) None
  round-absent h = let t : candidate a low r c ≡ false = sym e ∙ not-true b h in rw t

-- over the places held, or over what is held
filter_places : {A : Type 0} (g : A → Option ℕ) (d : A) (f : ℕ → A) (xs : List A) (i : ℕ) → ((k j : ℕ) → j ≡ i + k → k < length xs → f j ≡ get_or xs k d)
    → filter_map (λ j. g (f j)) (range_with_len i (length xs)) ≡ filter_map g xs
filter_places g d f [] i e = refl
filter_places g d f (x ∷ xs) i e =
    let z : f i ≡ x = e 0 i (omega arith) (omega arith) in
    let n : (k j : ℕ) → j ≡ i + 1 + k → k < length xs → f j ≡ get_or xs k d = λ k j q l. e (suc k) j (omega arith) (omega arith) in
    ap (λ y. cons_option (g y) (filter_map (λ j. g (f j)) (range_with_len (i + 1) (length xs)))) z ∙ ap (cons_option (g x)) (filter_places g d f xs (i + 1) n)

filter_held : (g : Cert → Option ℕ) (t : List ℕ) (n : ℕ) → n ≡ count_of t → filter_map (λ i. g (cert_at (held_of t) i)) (range_with_len 0 n) ≡ filter_map g (held_of t)
unfolding cert_at
filter_held g t n e =
    ap (λ k. filter_map (λ i. g (cert_at (held_of t) i)) (range_with_len 0 k)) (e ∙ sym (length-held t)) ∙ filter_places g none (cert_at (held_of t)) (held_of t) 0 (λ k j q l. let z : j ≡ k = omega arith in rw z)

-- ---- none of them is below low, whichever of two is picked

module _ (a : Agreed) (low r : ℕ) (h : ℕ → ℕ → ℕ) (p : (x y : ℕ) → low ≤ x → low ≤ y → low ≤ h x y) where
  fold-floor : (cs : List Cert) (m : ℕ) → low ≤ m → low ≤ fold h m (filter_map (round_in a low r) cs)
  fold-floor [] m l = l
  fold-floor (c ∷ cs) m l = go (λ n k. fold-floor cs n k) (candidate a low r c) refl
    where
      go : ((n : ℕ) → low ≤ n → low ≤ fold h n (filter_map (round_in a low r) cs)) → (b : Bool) → candidate a low r c ≡ b → low ≤ fold h m (filter_map (round_in a low r) (c ∷ cs))
      go ih true t = let k = candidate-is a low r c t in rw t (ih (h m c.round) (p m c.round l k.floor))
      go ih false t = rw t (ih m l)

  floor-of : (cs : List Cert) (f : Option ℕ) → f ≡ reduce h (filter_map (round_in a low r) cs) → IfSome f (λ q. low ≤ q)
  floor-of [] f e = rw e tt
  floor-of (c ∷ cs) f e = go (λ g q. floor-of cs g q) (candidate a low r c) refl
    where
      go : ((g : Option ℕ) → g ≡ reduce h (filter_map (round_in a low r) cs) → IfSome g (λ q. low ≤ q)) → (b : Bool) → candidate a low r c ≡ b → IfSome f (λ q. low ≤ q)
      go ih true t = let k = candidate-is a low r c t in let z = rw t at e in rw z (fold-floor cs c.round k.floor)
      go ih false t = ih f (rw t at e)

max-floor : (low x y : ℕ) → low ≤ x → low ≤ y → low ≤ max x y
max-floor low x y h k = omega arith

min-floor : (low x y : ℕ) → low ≤ x → low ≤ y → low ≤ min x y
min-floor low x y h k = omega arith

-- ---- the highest of all

module _ (a : Agreed) (low r : ℕ) where
  next_max : (cs : List Cert) (m : ℕ) → fold max m (filter_map (round_in a low r) cs) ≡ max m (next_round a low r cs)
  unfolding next_round
  next_max [] m = omega arith
  next_max (c ∷ cs) m = go (λ n. next_max cs n) (candidate a low r c) refl
    where
      go : ((n : ℕ) → fold max n (filter_map (round_in a low r) cs) ≡ max n (next_round a low r cs)) → (b : Bool) → candidate a low r c ≡ b
          → fold max m (filter_map (round_in a low r) (c ∷ cs)) ≡ max m (next_round a low r (c ∷ cs))
      go ih true t = let i = ih (max m c.round) in rw (t, next_round) (omega arith)
      go ih false t = let i = ih m in rw (t, next_round) i

  next-all : (cs : List Cert) (f : Option ℕ) → f ≡ reduce max (filter_map (round_in a low r) cs) → unwrap_or f 0 ≡ next_round a low r cs
  unfolding next_round
  next-all [] f e = rw e
  next-all (c ∷ cs) f e = go (λ g q. next-all cs g q) (candidate a low r c) refl
    where
      go : ((g : Option ℕ) → g ≡ reduce max (filter_map (round_in a low r) cs) → unwrap_or g 0 ≡ next_round a low r cs) → (b : Bool) → candidate a low r c ≡ b
          → unwrap_or f 0 ≡ next_round a low r (c ∷ cs)
      go ih true t = let z = rw t at e in let i = next_max cs c.round in rw (z, t, next_round) i
      go ih false t = let i = ih f (rw t at e) in rw (t, next_round) i

-- ---- the lowest of all

module _ (a : Agreed) (low r : ℕ) (some : 1 ≤ low) where
  lowest_min : (cs : List Cert) (m : ℕ) → 1 ≤ m → fold min m (filter_map (round_in a low r) cs) ≡ lower_of m (lowest_round a low r cs)
  unfolding lowest_round
  lowest_min [] m l = sym (none-lower m)
  lowest_min (c ∷ cs) m l = go (λ n k. lowest_min cs n k) (candidate a low r c) refl
    where
      go : ((n : ℕ) → 1 ≤ n → fold min n (filter_map (round_in a low r) cs) ≡ lower_of n (lowest_round a low r cs)) → (b : Bool) → candidate a low r c ≡ b
          → fold min m (filter_map (round_in a low r) (c ∷ cs)) ≡ lower_of m (lowest_round a low r (c ∷ cs))
      go ih true t =
          let k = (candidate-is a low r c t).floor in
          let i = ih (min m c.round) (omega arith) in
          let z = lower-both m c.round (λ q. absurd (omega arith)) (λ q. absurd (omega arith)) in
          rw (t, lowest_round) (i ∙ ap (λ (v : ℕ). lower_of v (lowest_round a low r cs)) (sym z) ∙ lower-assoc m c.round (lowest_round a low r cs))
      go ih false t = let i = ih m l in rw (t, lowest_round) i

  lowest-all : (cs : List Cert) (f : Option ℕ) → f ≡ reduce min (filter_map (round_in a low r) cs) → unwrap_or f 0 ≡ lowest_round a low r cs
  unfolding lowest_round
  lowest-all [] f e = rw e
  lowest-all (c ∷ cs) f e = go (λ g q. lowest-all cs g q) (candidate a low r c) refl
    where
      go : ((g : Option ℕ) → g ≡ reduce min (filter_map (round_in a low r) cs) → unwrap_or g 0 ≡ lowest_round a low r cs) → (b : Bool) → candidate a low r c ≡ b
          → unwrap_or f 0 ≡ lowest_round a low r (c ∷ cs)
      go ih true t =
          let k = (candidate-is a low r c t).floor in
          let z = rw t at e in
          let i = lowest_min cs c.round (omega arith) in
          rw (z, t, lowest_round) i
      go ih false t = let i = ih f (rw t at e) in rw (t, lowest_round) i

-- a round 0 is none, so it is the lowest from 1 up
lowest_from_one : (a : Agreed) (low r : ℕ) (cs : List Cert) → lowest_round a (max low 1) r cs ≡ lowest_round a low r cs
unfolding lowest_round
lowest_from_one a low r [] = refl
lowest_from_one a low r (c ∷ cs) = go (lowest_from_one a low r cs) (eqb c.round 0) refl (candidate a (max low 1) r c) refl (candidate a low r c) refl
  where
    R : ℕ
    R = lowest_round a low r cs

    raised : (c.round ≡ 0 → ⊥) → Candidate a low r c → Candidate a (max low 1) r c
    raised n k = record { leads = k.leads; even = k.even; floor = let f = k.floor in omega arith; roof = k.roof }

    lowered : Candidate a (max low 1) r c → Candidate a low r c
    lowered k = record { leads = k.leads; even = k.even; floor = let f = k.floor in omega arith; roof = k.roof }

    go : lowest_round a (max low 1) r cs ≡ R → (z : Bool) → eqb c.round 0 ≡ z → (b : Bool) → candidate a (max low 1) r c ≡ b → (d : Bool) → candidate a low r c ≡ d
        → lowest_round a (max low 1) r (c ∷ cs) ≡ lowest_round a low r (c ∷ cs)
    go ih z q true t true u = rw (t, u, lowest_round) (ap (lower_of c.round) ih)
    go ih z q true t false u = absurd (true-not-false (sym (candidate-when a low r c (lowered (candidate-is a (max low 1) r c t))) ∙ u))
    go ih true q false t true u = rw (t, u, lowest_round) (ih ∙ sym (ap (λ (v : ℕ). lower_of v R) (eqb-true c.round 0 q) ∙ lower-none R))
    go ih false q false t true u =
        absurd (true-not-false (sym (candidate-when a (max low 1) r c (raised (eqb-false c.round 0 q) (candidate-is a low r c u))) ∙ t))
    go ih z q false t false u = rw (t, u, lowest_round) ih

floor_below : (low m : ℕ) (f : Option ℕ) → low ≤ m → IfSome f (λ q. m ≤ q) → IfSome f (λ q. low ≤ q)
floor_below low m None l h = tt
floor_below low m (Some q) l h = omega arith

-- ---- over the places held

pub next-found : (a : Agreed) (t : List ℕ) (low r n : ℕ) (f : Option ℕ) → n ≡ count_of t → f ≡ reduce max (filter_map (λ i. round_in a low r (cert_at (held_of t) i)) (range_with_len 0 n))
    → (unwrap_or f 0 ≡ next_round a low r (held_of t)) × IfSome f (λ q. low ≤ q)
next-found a t low r n f e g =
    let p = g ∙ ap (reduce max) (filter_held (round_in a low r) t n e) in
    (next-all a low r (held_of t) f p, floor-of a low r max (max-floor low) (held_of t) f p)

pub lowest-found : (a : Agreed) (t : List ℕ) (low m r n : ℕ) (f : Option ℕ) → m ≡ max low 1 → n ≡ count_of t
    → f ≡ reduce min (filter_map (λ i. round_in a m r (cert_at (held_of t) i)) (range_with_len 0 n)) → (unwrap_or f 0 ≡ lowest_round a low r (held_of t)) × IfSome f (λ q. low ≤ q)
lowest-found a t low m r n f w e g =
    let p = g ∙ ap (reduce min) (filter_held (round_in a m r) t n e) in (
      lowest-all a m r (omega arith) (held_of t) f p ∙ ap (λ (v : ℕ). lowest_round a v r (held_of t)) w ∙ lowest_from_one a low r (held_of t),
      floor_below low m f (omega arith) (floor-of a m r min (min-floor m) (held_of t) f p),
    )
