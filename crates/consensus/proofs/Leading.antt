-- The leaders by their places in the table: a round's leader, and the loop that goes down to the earlier ones. Assumes nothing.
use mathlib.Core.Bool.{Bool, ◌&&◌, false, true}
use mathlib.Core.List.{List, [], ◌∷◌, map}
use mathlib.Core.Logic.{inl, inr}
use mathlib.Core.Path.{◌∙◌, ◌≡◌, ap, refl, subst, sym}
use Prim.Native.Nat.{◌%◌, ◌+◌, ◌-◌, ◌<◌, ◌≤◌, suc, suc-le-suc, ℕ}
use native.Mathlib.Nat.{le_of_suc-le-suc, not-suc-le-zero}
use native.Mathlib.Omega.{arith}
use borrow.Author.Tests.{eqb-true, le-ltb, lt-ltb, ltb-false, ltb-true}
use lib.Dec.{eqb, ltb}
use lib.ListN.{length, length-map}
use Rattle.config.proofs.Laws.{both}
use Rattle.config.specs.Committee.{leader_place}
use Rattle.consensus.specs.Among.{In}
use Rattle.consensus.specs.Candidates.{edition1, every_second}
use Rattle.consensus.specs.Leaders.{Agreed, Leaders, absent, by_origin, leader, leaders, leaders_from, link, linked, present}
use Rattle.consensus.specs.Table.{Cert, cert_at, of_round, pair_place}
use Rattle.consensus.proofs.Climb.{Climb, level, step-up}
use Rattle.consensus.proofs.Decide.{absent≢present}
use Rattle.consensus.proofs.Editions.{second-fuel}
use Rattle.consensus.proofs.Lists.{at_in}
use Rattle.consensus.proofs.Scan.{next-hit, next_le, next-leader, next_round, scan-pass, scan-stop, scan-take}

-- ---- a round's leader

pub pair-most : (o r : ℕ) (held : List Cert) → pair_place o r held ≤ length held
unfolding pair_place
pair-most o r [] = omega arith
pair-most o r (c ∷ cs) = go (pair-most o r cs) (eqb c.origin o && eqb c.round r) refl
  where
    go : pair_place o r cs ≤ length cs → (b : Bool) → (eqb c.origin o && eqb c.round r) ≡ b → pair_place o r (c ∷ cs) ≤ length (c ∷ cs)
    go ih true t = rw (t, pair_place) (omega arith)
    go ih false t = rw (t, pair_place) (suc-le-suc ih)

pair_is : (o r : ℕ) (held : List Cert) → pair_place o r held < length held → ((cert_at held (pair_place o r held)).origin ≡ o) × ((cert_at held (pair_place o r held)).round ≡ r)
unfolding pair_place cert_at
pair_is o r [] h = absurd (not-suc-le-zero h)
pair_is o r (c ∷ cs) h = go (pair_is o r cs) (eqb c.origin o && eqb c.round r) refl h
  where
    go : (pair_place o r cs < length cs → ((cert_at cs (pair_place o r cs)).origin ≡ o) × ((cert_at cs (pair_place o r cs)).round ≡ r))
        → (b : Bool) → (eqb c.origin o && eqb c.round r) ≡ b → pair_place o r (c ∷ cs) < length (c ∷ cs)
        → ((cert_at (c ∷ cs) (pair_place o r (c ∷ cs))).origin ≡ o) × ((cert_at (c ∷ cs) (pair_place o r (c ∷ cs))).round ≡ r)
    go ih true t l =
        let y = both (eqb c.origin o) (eqb c.round r) t in
        rw (t, pair_place, cert_at) (eqb-true c.origin o y.0, eqb-true c.round r y.1)
    go ih false t l = rw (t, pair_place, cert_at) (ih (le_of_suc-le-suc (rw (t, pair_place) at l)))

pub pair-origin : (o r : ℕ) (held : List Cert) (p : ℕ) → p ≡ pair_place o r held → p < length held → (cert_at held p).origin ≡ o
pair-origin o r held p e h = rw e (pair_is o r held (rw e at h)).0

pub pair-round : (o r : ℕ) (held : List Cert) (p : ℕ) → p ≡ pair_place o r held → p < length held → (cert_at held p).round ≡ r
pair-round o r held p e h = rw e (pair_is o r held (rw e at h)).1

by-pair : (o r : ℕ) (held : List Cert) → pair_place o r held < length held → by_origin o (of_round r held) ≡ present (cert_at held (pair_place o r held))
unfolding pair_place cert_at by_origin of_round
by-pair o r [] h = absurd (not-suc-le-zero h)
by-pair o r (c ∷ cs) h = go (by-pair o r cs) (eqb c.origin o) refl (eqb c.round r) refl h
  where
    go : (pair_place o r cs < length cs → by_origin o (of_round r cs) ≡ present (cert_at cs (pair_place o r cs)))
        → (b : Bool) → eqb c.origin o ≡ b → (d : Bool) → eqb c.round r ≡ d → pair_place o r (c ∷ cs) < length (c ∷ cs)
        → by_origin o (of_round r (c ∷ cs)) ≡ present (cert_at (c ∷ cs) (pair_place o r (c ∷ cs)))
    go ih true t true u l = rw (t, u, pair_place, cert_at, of_round) (rw (t, by_origin))
    go ih true t false u l = rw (t, u, pair_place, cert_at, of_round) (ih (le_of_suc-le-suc (rw (t, u, pair_place) at l)))
    go ih false t true u l = rw (t, u, pair_place, cert_at, of_round) (rw (t, by_origin) (ih (le_of_suc-le-suc (rw (t, pair_place) at l))))
    go ih false t false u l = rw (t, u, pair_place, cert_at, of_round) (ih (le_of_suc-le-suc (rw (t, pair_place) at l)))

by-none : (o r : ℕ) (held : List Cert) → length held ≤ pair_place o r held → by_origin o (of_round r held) ≡ absent
unfolding pair_place by_origin of_round
by-none o r [] h = refl
by-none o r (c ∷ cs) h = go (by-none o r cs) (eqb c.origin o) refl (eqb c.round r) refl h
  where
    go : (length cs ≤ pair_place o r cs → by_origin o (of_round r cs) ≡ absent)
        → (b : Bool) → eqb c.origin o ≡ b → (d : Bool) → eqb c.round r ≡ d → length (c ∷ cs) ≤ pair_place o r (c ∷ cs)
        → by_origin o (of_round r (c ∷ cs)) ≡ absent
    go ih true t true u l = absurd (not-suc-le-zero (rw (t, u, pair_place) at l))
    go ih true t false u l = rw (u, of_round) (ih (le_of_suc-le-suc (rw (t, u, pair_place) at l)))
    go ih false t true u l = rw (u, of_round, t, by_origin) (ih (le_of_suc-le-suc (rw (t, pair_place) at l)))
    go ih false t false u l = rw (u, of_round) (ih (le_of_suc-le-suc (rw (t, pair_place) at l)))

module _ (a : Agreed) (r : ℕ) (held : List Cert) (p : ℕ) (e : p ≡ pair_place (leader_place (length a.stakes) r) r held) where
  pub leader-at : p < length held → leader a r held ≡ present (cert_at held p)
  unfolding leader
  leader-at h = by-pair (leader_place (length a.stakes) r) r held (rw e at h) ∙ ap (λ (k : ℕ). present (cert_at held k)) (sym e)

  pub leader-off : length held ≤ p → leader a r held ≡ absent
  unfolding leader
  leader-off h = by-none (leader_place (length a.stakes) r) r held (rw e at h)

  -- and back: a leader that is there has the place
  pub leader-place : (c : Cert) → leader a r held ≡ present c → p < length held
  leader-place c t = go (ltb p (length held)) refl
    where
      go : (b : Bool) → ltb p (length held) ≡ b → p < length held
      go true q = ltb-true p (length held) q
      go false q = absurd (absent≢present (sym (leader-off (ltb-false p (length held) q)) ∙ t))

  pub leader-cert : (c : Cert) → leader a r held ≡ present c → cert_at held p ≡ c
  leader-cert c t = let q : present (cert_at held p) ≡ present c = sym (leader-at (leader-place c t)) ∙ t in cc

-- ---- the loop: r is the highest round not yet looked at, low the lowest that counts

-- what is left to do, with no bound on the turns
unfoldable pub leaders_below : Agreed → List Cert → ℕ → ℕ → Cert → List Cert → Leaders
unfolding every_second leaders_from
leaders_below a held low r u us = leaders_from a held u us (every_second (suc r) r low)

-- any bound above r gives the same
pub below-any : (a : Agreed) (held : List Cert) (low r : ℕ) (u : Cert) (us : List Cert) (m : ℕ) → 2 ≤ low → r < m
    → leaders_from a held u us (every_second m r low) ≡ leaders_below a held low r u us
unfolding leaders_below
below-any a held low r u us m two h = ap (leaders_from a held u us) (second-fuel m (suc r) r low two h (omega arith))

pub below-start : (a : Agreed) (held : List Cert) (l c : ℕ) (u : Cert) (us : List Cert) → 0 < l
    → leaders_from a held u us (edition1 l c) ≡ leaders_below a held (c + 2) (l - 1) u us
unfolding edition1
below-start a held l c u us h = below-any a held (c + 2) (l - 1) u us l (omega arith) (omega arith)

pub below-stop : (a : Agreed) (held : List Cert) (low r : ℕ) (u : Cert) (us : List Cert) → 2 ≤ low → next_round a low r held ≡ 0
    → leaders_below a held low r u us ≡ leaders us
unfolding leaders_below
below-stop a held low r u us two e = scan-stop a held low two (suc r) r (omega arith) u us e

same-parity : (r : ℕ) → 2 ≤ r → (r - 2) % 2 ≡ r % 2
same-parity r h = omega arith

-- a hit: its round, and its leader's place
pub next-floor : (a : Agreed) (held : List Cert) (low r q : ℕ) → q ≡ next_round a low r held → (q ≡ 0 → ⊥) → low ≤ q
next-floor a held low r q e n = let y = next-hit a low r held (λ z. n (e ∙ z)) in let f = y.2.floor in let g = y.3 in omega arith

pub next-roof : (a : Agreed) (held : List Cert) (low r q : ℕ) → q ≡ next_round a low r held → q ≤ r
next-roof a held low r q e = rw e (next_le a low r held)

pub next-even : (a : Agreed) (held : List Cert) (low r q : ℕ) → q ≡ next_round a low r held → (q ≡ 0 → ⊥) → q % 2 ≡ r % 2
next-even a held low r q e n =
    let y = next-hit a low r held (λ z. n (e ∙ z)) in
    ap (λ (k : ℕ). k % 2) (e ∙ sym y.3) ∙ y.2.even

module _ (a : Agreed) (held : List Cert) (low r q p : ℕ) (e : q ≡ next_round a low r held) (n : q ≡ 0 → ⊥)
    (f : p ≡ pair_place (leader_place (length a.stakes) q) q held) where
  pub next_place : p < length held
  next_place = let y = next-leader a low r q held (sym e) n in leader-place a q held p f y.0 y.1

  pub next-round : (cert_at held p).round ≡ q
  next-round = pair-round (leader_place (length a.stakes) q) q held p f next_place

  pub next-leads : leader a q held ≡ present (cert_at held p)
  next-leads = leader-at a q held p f next_place

  -- r falls, and stays below the leader taken last
  pub next-falls : 2 ≤ low → q - 2 < q
  next-falls two = let y = next-floor a held low r q e n in omega arith

  module _ (two : 2 ≤ low) (u : Cert) (us : List Cert) where
    pub below-take : linked (u.round - q) q (cert_at held p).digest (u ∷ []) held ≡ link true
        → leaders_below a held low r u us ≡ leaders_below a held low (q - 2) (cert_at held p) (cert_at held p ∷ us)
    unfolding leaders_below
    below-take k =
        scan-take a held low two (suc r) r (omega arith) u us q (sym e) n (cert_at held p) next-leads k
        ∙ below-any a held low (q - 2) (cert_at held p) (cert_at held p ∷ us) q two (next-falls two)

    pub below-pass : linked (u.round - q) q (cert_at held p).digest (u ∷ []) held ≡ link false
        → leaders_below a held low r u us ≡ leaders_below a held low (q - 2) u us
    unfolding leaders_below
    below-pass k =
        scan-pass a held low two (suc r) r (omega arith) u us q (sym e) n (cert_at held p) next-leads k
        ∙ below-any a held low (q - 2) u us q two (next-falls two)

-- ---- rising leaders are no more than are held

-- how many are above a round
unfoldable above : ℕ → List Cert → ℕ
above b [] = 0
above b (c ∷ cs) = elim (ltb b c.round) [ true ↦ suc (above b cs) | false ↦ above b cs ]

above_most : (b : ℕ) (cs : List Cert) → above b cs ≤ length cs
unfolding above
above_most b [] = omega arith
above_most b (c ∷ cs) = go (above_most b cs) (ltb b c.round) refl
  where
    go : above b cs ≤ length cs → (t : Bool) → ltb b c.round ≡ t → above b (c ∷ cs) ≤ length (c ∷ cs)
    go ih true t = rw (t, above) (suc-le-suc ih)
    go ih false t = rw (t, above) (omega arith)

above-less : (b b' : ℕ) (cs : List Cert) → b ≤ b' → above b' cs ≤ above b cs
unfolding above
above-less b b' [] h = omega arith
above-less b b' (c ∷ cs) h = go (above-less b b' cs h) (ltb b c.round) refl (ltb b' c.round) refl
  where
    go : above b' cs ≤ above b cs → (t : Bool) → ltb b c.round ≡ t → (t' : Bool) → ltb b' c.round ≡ t' → above b' (c ∷ cs) ≤ above b (c ∷ cs)
    go ih true t true u = rw (t, u, above) (suc-le-suc ih)
    go ih true t false u = rw (t, u, above) (omega arith)
    go ih false t true u = let x = ltb-false b c.round t in let y = ltb-true b' c.round u in absurd (omega arith)
    go ih false t false u = rw (t, u, above) ih

above-lose : (b : ℕ) (cs : List Cert) (d : Cert) → In d cs → b < d.round → above d.round cs < above b cs
unfolding above
above-lose b [] d h lt = absurd h
above-lose b (c ∷ cs) d (inl z) lt =
    let e : d.round ≡ c.round = ap (λ (v : Cert). v.round) z in
    let t : ltb b c.round ≡ true = lt-ltb b c.round (omega arith) in
    let u : ltb d.round c.round ≡ false = le-ltb d.round c.round (omega arith) in
    let y = above-less b d.round cs (omega arith) in
    rw (t, u, above) (suc-le-suc y)
above-lose b (c ∷ cs) d (inr i) lt = go (above-lose b cs d i lt) (ltb b c.round) refl (ltb d.round c.round) refl
  where
    go : above d.round cs < above b cs → (t : Bool) → ltb b c.round ≡ t → (t' : Bool) → ltb d.round c.round ≡ t'
        → above d.round (c ∷ cs) < above b (c ∷ cs)
    go ih true t true u = rw (t, u, above) (suc-le-suc ih)
    go ih true t false u = rw (t, u, above) (omega arith)
    go ih false t true u = let x = ltb-false b c.round t in let y = ltb-true d.round c.round u in absurd (omega arith)
    go ih false t false u = rw (t, u, above) ih

climb-above : (held : List Cert) (b : ℕ) (ls : List Cert) → Climb held b ls → length ls ≤ above b held
climb-above held b [] level = omega arith
climb-above held b (c ∷ cs) (step-up _ h lt r) =
    let x = climb-above held c.round cs r in let y = above-lose b held c h lt in omega arith

pub climb-length : (held : List Cert) (b : ℕ) (ls : List Cert) → Climb held b ls → length ls ≤ length held
climb-length held b ls r = let x = climb-above held b ls r in let y = above_most b held in omega arith

lower : (held : List Cert) (b b' : ℕ) (u : Cert) (us : List Cert) → b' < u.round → Climb held b (u ∷ us) → Climb held b' (u ∷ us)
lower held b b' u us lt (step-up _ h l r) = step-up u h lt r

-- ---- the loop's invariant, by places: r₀ is the r that it starts with, v the leader taken last, ws those taken before it

pub record Leading (a : Agreed) (held : List Cert) (low r₀ : ℕ) (whole : Leaders) (r v : ℕ) (ws : List ℕ) : Type 0 where
  pub two : 2 ≤ low
  pub fits : v < length held
  pub under : r < (cert_at held v).round
  pub most : (cert_at held v).round ≤ suc r₀
  pub less : r ≤ r₀
  pub even : r % 2 ≡ r₀ % 2
  pub rises : Climb held (low - 2) (map (cert_at held) (v ∷ ws))
  pub same : leaders_below a held low r (cert_at held v) (map (cert_at held) (v ∷ ws)) ≡ whole

-- from the leader of round l, above c
pub lead-start : (a : Agreed) (held : List Cert) (l c v low r₀ : ℕ) → v ≡ pair_place (leader_place (length a.stakes) l) l held → v < length held → c < l
    → low ≡ c + 2 → r₀ ≡ l - 1 → Leading a held low r₀ (leaders_from a held (cert_at held v) (cert_at held v ∷ []) (edition1 l c)) r₀ v []
lead-start a held l c v low r₀ e h lt el er =
    let q : (cert_at held v).round ≡ l = pair-round (leader_place (length a.stakes) l) l held v e h in
    record {
      two = omega arith;
      fits = h;
      under = omega arith;
      most = omega arith;
      less = omega arith;
      even = refl;
      rises = step-up {b = low - 2} (cert_at held v) (at_in held v h) (omega arith) level;
      same = rw (el, er) (sym (below-start a held l c (cert_at held v) (cert_at held v ∷ []) (omega arith)));
    }

module _ (a : Agreed) (held : List Cert) (low r₀ : ℕ) (whole : Leaders) (r v : ℕ) (ws : List ℕ) (L : Leading a held low r₀ whole r v ws) where
  pub lead-done : (q : ℕ) → q ≡ next_round a low r held → q ≡ 0 → whole ≡ leaders (map (cert_at held) (v ∷ ws))
  lead-done q e z = sym L.same ∙ below-stop a held low r (cert_at held v) (map (cert_at held) (v ∷ ws)) L.two (sym e ∙ z)

  pub lead-fits : length (v ∷ ws) ≤ length held
  lead-fits =
      let x = climb-length held (low - 2) (map (cert_at held) (v ∷ ws)) L.rises in
      let y = length-map (v ∷ ws) (cert_at held) in
      omega arith

  module _ (q p : ℕ) (e : q ≡ next_round a low r held) (n : q ≡ 0 → ⊥) (f : p ≡ pair_place (leader_place (length a.stakes) q) q held) where
    -- the next one stands below the leader taken last, and there is room for it
    pub lead-below : (cert_at held p).round < (cert_at held v).round
    lead-below = let x = next-round a held low r q p e n f in let y = next-roof a held low r q e in let z = L.under in omega arith

    lead-rise : Climb held (low - 2) (map (cert_at held) (p ∷ v ∷ ws))
    lead-rise =
        let x : (cert_at held p).round ≡ q = next-round a held low r q p e n f in
        let y = next-floor a held low r q e n in
        let z = L.two in
        step-up {b = low - 2} (cert_at held p) (at_in held p (next_place a held low r q p e n f)) (omega arith)
        (lower held (low - 2) (cert_at held p).round (cert_at held v) (map (cert_at held) ws) lead-below L.rises)

    pub lead-room : length (v ∷ ws) < length held
    lead-room =
        let x = climb-length held (low - 2) (map (cert_at held) (p ∷ v ∷ ws)) lead-rise in
        let y = length-map (p ∷ v ∷ ws) (cert_at held) in
        omega arith

    down : (q - 2) % 2 ≡ r₀ % 2
    down =
        let x : q % 2 ≡ r₀ % 2 = next-even a held low r q e n ∙ L.even in
        let y : 2 ≤ q = let z = next-floor a held low r q e n in let w = L.two in omega arith in
        same-parity q y ∙ x

    pub lead-take : linked ((cert_at held v).round - q) q (cert_at held p).digest (cert_at held v ∷ []) held ≡ link true
        → Leading a held low r₀ whole (q - 2) p (v ∷ ws)
    lead-take k =
        let x = next-round a held low r q p e n f in
        let y = next-falls a held low r q p e n f L.two in
        let z = next-roof a held low r q e in
        let w = L.less in
        record {
          two = L.two;
          fits = next_place a held low r q p e n f;
          under = omega arith;
          most = omega arith;
          less = omega arith;
          even = down;
          rises = lead-rise;
          same = sym (below-take a held low r q p e n f L.two (cert_at held v) (map (cert_at held) (v ∷ ws)) k) ∙ L.same;
        }

    pub lead-pass : linked ((cert_at held v).round - q) q (cert_at held p).digest (cert_at held v ∷ []) held ≡ link false
        → Leading a held low r₀ whole (q - 2) v ws
    lead-pass k =
        let y = next-falls a held low r q p e n f L.two in
        let z = next-roof a held low r q e in
        let w = L.less in
        let x = L.under in
        record {
          two = L.two;
          fits = L.fits;
          under = omega arith;
          most = L.most;
          less = omega arith;
          even = down;
          rises = L.rises;
          same = sym (below-pass a held low r q p e n f L.two (cert_at held v) (map (cert_at held) (v ∷ ws)) k) ∙ L.same;
        }

-- low is C + 2: the leaders rise from C
pub lead-rises : (a : Agreed) (held : List Cert) (c r₀ : ℕ) (whole : Leaders) (r v : ℕ) (ws : List ℕ) → Leading a held (c + 2) r₀ whole r v ws
    → Climb held c (map (cert_at held) (v ∷ ws))
lead-rises a held c r₀ whole r v ws L =
    let e : c + 2 - 2 ≡ c = omega arith in
    subst (λ (b : ℕ). Climb held b (map (cert_at held) (v ∷ ws))) e L.rises
