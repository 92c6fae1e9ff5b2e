-- The leaders found, and their commit. Assumes nothing.
use mathlib.Core.Path.{◌≡◌, refl, sym, ap, ◌∙◌, subst}
use mathlib.Core.List.{List, [], ◌∷◌, ◌++◌, map, reverse, reverse-append, append-nil}
use mathlib.Core.Logic.{◌⊎◌, inl, inr}
use Prim.Native.Nat.{ℕ, zero, suc, ◌+◌, ◌-◌, ◌*◌, ◌/◌, ◌≤◌, ◌<◌}
use native.Mathlib.Omega.{arith}
use lib.ListN.{length, get_or, take, drop, replicate, length-take, length-drop, length-replicate, drop_of_length-le}
use lib.Seq.{take-suc, drop_at}
use Rattle.wire.specs.Bytes.{splice}
use Rattle.wire.proofs.Laws.{less-or-not}
use Rattle.table.proofs.Laws.{is-table}
use Rattle.config.proofs.Laws.{valid, valid-setup}
use Rattle.consensus.specs.Listing.{serve}
use Rattle.consensus.proofs.Lists.{in-at}
use Rattle.consensus.proofs.Size.{serve-fits}
use Rattle.table.specs.Rows.{count_of, places}
use Rattle.room.specs.Numbers.{rounds_of}
use Rattle.room.proofs.Laws.{length-rounds}
use Rattle.config.specs.Committee.{depth_of, leader_place}
use Rattle.consensus.specs.Among.{In}
use Rattle.consensus.specs.Table.{Cert, cert_at, none, pair_place, highest}
use Rattle.consensus.specs.Leaders.{Agreed, Decision, decide, quiet, missing, opens}
use Rattle.consensus.proofs.Climb.{Climb, step-up}
use Rattle.consensus.proofs.Settling.{opens-rise, opening}
use Rattle.held.specs.Rows.{held_of, lasts_of, state_of}
use Rattle.held.proofs.Laws.{length-held, length-lasts, lawful, origin-below}
use Rattle.leaders.specs.Setup.{agreed_of, kind_of}
use Rattle.std.specs.Prelude.{Bool, true, false, Result, Ok, Err}
use Rattle.refusal.specs.declared.Refusal.{Refusal}
use Rattle.leaders.specs.Taking.{leader_at, leader_in, Opener, Taken}
use Rattle.leaders.proofs.Agreeing.{agreed-many, agreed-edition}
use Rattle.leaders.proofs.Opening.{opener-decides, opener-fits, opener-round, opener-is}
use Rattle.commit.specs.Commit as commit
use Rattle.commit.specs.Commit.{leaders_of, Opened, Ready, Committed}
use Rattle.accept.specs.Commits.{Opening, Found, Commits}

-- ---- leaders by rounds, stored the highest first

reverse-end : (xs : List ℕ) (x : ℕ) → reverse (xs ++ (x ∷ [])) ≡ x ∷ reverse xs
reverse-end xs x = reverse-append xs (x ∷ [])

same-leader : (a : Agreed) (n : ℕ) (held : List Cert) (r : ℕ) → length a.stakes ≡ n → leader_in a held r ≡ commit.leader_in n held r
unfolding leader_in leader_at commit.leader_in
same-leader a n held r e = ap (λ (k : ℕ). cert_at held (pair_place (leader_place k r) r held)) e

leaders-map : (a : Agreed) (n : ℕ) (held : List Cert) (rs : List ℕ) (k : ℕ) → length a.stakes ≡ n → k ≤ length rs → map (leader_in a held) (reverse (take k rs)) ≡ leaders_of n held rs k
unfolding leaders_of
leaders-map a n held rs zero e h = refl
leaders-map a n held rs (suc k) e h =
    ap (λ (v : List ℕ). map (leader_in a held) (reverse v)) (take-suc rs k 0 h)
    ∙ ap (map (leader_in a held)) (reverse-end (take k rs) (get_or rs k 0))
    ∙ cons (same-leader a n held (get_or rs k 0) e) (leaders-map a n held rs k e (omega arith))
  where
    cons : {c d : Cert} {cs ds : List Cert} → c ≡ d → cs ≡ ds → c ∷ cs ≡ d ∷ ds
    cons p q = cc (p, q)

-- a commit opens only from round 5 on
abbrev rank : Result Bool Refusal → ℕ
rank (Ok false) = 0
rank (Err e) = 0
rank (Ok true) = 1

five-rounds : (a : Agreed) (n : ℕ) (last : List ℕ) (held : List Cert) → Ok true ≡ kind_of (decide a n last held) → 5 ≤ n
five-rounds a n last held e = go (decide a n last held) refl e
  where
    go : (d : Decision) → decide a n last held ≡ d → Ok true ≡ kind_of d → 5 ≤ n
    go quiet q f = let z : ◌≡◌ {A = ℕ} 1 0 = ap rank f in absurd (omega arith)
    go missing q f = let z : ◌≡◌ {A = ℕ} 1 0 = ap rank f in absurd (omega arith)
    go (opens ls) q f = (opening a n last held ls q).five

-- ---- each found one is held

module _ (n : ℕ) (held : List Cert) (rs : List ℕ) where
  -- a round of 0 is no leader's above b
  climbs : (k b : ℕ) → Climb held b (leaders_of n held rs k) → (i : ℕ) → i < k → b < (commit.leader_in n held (get_or rs i 0)).round
  unfolding leaders_of
  climbs zero b c i h = absurd (omega arith)
  climbs (suc k) b (step-up _ q lt r) i h = go (climbs k (commit.leader_in n held (get_or rs k 0)).round r i) (less-or-not i k)
    where
      go : (i < k → (commit.leader_in n held (get_or rs k 0)).round < (commit.leader_in n held (get_or rs i 0)).round) → (i < k) ⊎ (k ≤ i) → b < (commit.leader_in n held (get_or rs i 0)).round
      go ih (inl l) = let m = ih l in omega arith
      go ih (inr g) = let z : k ≡ i = omega arith in subst (λ (j : ℕ). b < (commit.leader_in n held (get_or rs j 0)).round) z lt

-- a certificate past those held has round 0
past-none : (cs : List Cert) (i : ℕ) → length cs ≤ i → cert_at cs i ≡ none
unfolding cert_at
past-none [] i h = refl
past-none (c ∷ cs) zero h = absurd (omega arith)
past-none (c ∷ cs) (suc i) h = past-none cs i (omega arith)

held_place : (held : List Cert) (i b : ℕ) → b < (cert_at held i).round → i < length held
held_place held i b h = go (less-or-not i (length held))
  where
    go : (i < length held) ⊎ (length held ≤ i) → i < length held
    go (inl l) = l
    go (inr g) = let z : (cert_at held i).round ≡ 0 = ap (λ (c : Cert). c.round) (past-none held i g) in absurd (omega arith)

module _ (setup : List ℕ) (round : ℕ) (st t : List ℕ) (o : Opening setup round st t) (p : ℕ) (ep : p ≡ leader_at (agreed_of setup) (held_of t) (round - 3)) where
  abbrev a : Agreed
  a = agreed_of setup

  abbrev n : ℕ
  n = (length setup - 8) / 69

  pub opener-low : p < count_of t
  opener-low = let f = opener-fits a (lasts_of st) (held_of t) round p o.opens ep in let l = length-held t in omega arith

  pub opener-holds : Opener (agreed_of setup) (lasts_of st) (held_of t) p
  opener-holds = opener-is a (lasts_of st) (held_of t) round p o.opens ep

  module _ (k : ℕ) (rounds after : List ℕ) (room : count_of t * 4 ≤ length rounds) (T : Taken (agreed_of setup) (lasts_of st) (held_of t) p k rounds after) where
    many : k ≤ length (rounds_of after)
    many = let b = T.most in let c = T.size in let l = length-held t in let r = length-rounds after in omega arith

    decides : decide a round (lasts_of st) (held_of t) ≡ opens (leaders_of n (held_of t) (rounds_of after) k)
    decides =
        let r = opener-round a (lasts_of st) (held_of t) round p o.opens ep in
        let five = five-rounds a round (lasts_of st) (held_of t) o.opens in
        let m : (cert_at (held_of t) p).round + 3 ≡ round = omega arith in
        ap (λ (v : ℕ). decide a v (lasts_of st) (held_of t)) (sym m)
        ∙ opener-decides a (lasts_of st) (held_of t) p opener-holds k rounds after T
        ∙ ap opens (leaders-map a n (held_of t) (rounds_of after) k (agreed-many setup) many)

    rises : Climb (held_of t) (highest (lasts_of st)) (leaders_of n (held_of t) (rounds_of after) k)
    rises = opens-rise a round (lasts_of st) (held_of t) (leaders_of n (held_of t) (rounds_of after) k) decides (agreed-edition setup)

    pub leaders-found : Found setup round st t after k
    unfolding commit.leader_in
    leaders-found =
        record {
          opened = record {
            some = T.some;
            room = let b = T.most in let c = T.size in let l = length-held t in omega arith;
            present = λ i h.
                let q = climbs n (held_of t) (rounds_of after) k (highest (lasts_of st)) rises i h in
                let w = held_place (held_of t) (pair_place (leader_place n (get_or (rounds_of after) i 0)) (get_or (rounds_of after) i 0) (held_of t)) (highest (lasts_of st)) q in
                let l = length-held t in
                omega arith;
            rises = rises;
          };
          order = decides;
        }

-- ---- what the steps ask

pub round-high : (setup : List ℕ) (round : ℕ) (st t : List ℕ) → Opening setup round st t → 5 ≤ round
round-high setup round st t o = five-rounds (agreed_of setup) round (lasts_of st) (held_of t) o.opens

pub walk-part : (walk t : List ℕ) (h : ℕ) → h ≡ count_of t → length walk ≡ count_of t * 8 → length (take (h - 0) (drop 0 walk)) ≡ count_of t
walk-part walk t h e l = simp (length-take, length-drop) (omega arith)

pub link-part : (link t : List ℕ) (h : ℕ) → h ≡ count_of t → length link ≡ count_of t * 8 → count_of t * 4 ≤ length (take (length link - h) (drop h link))
link-part link t h e l = simp (length-take, length-drop) (omega arith)

-- the link room with the rounds back in it
pub found_back : (setup : List ℕ) (round : ℕ) (st t link w : List ℕ) (h k : ℕ) → h ≡ count_of t → length link ≡ count_of t * 8 → length w ≡ length (take (length link - h) (drop h link)) → Found setup round st t w k
    → Found setup round st t (drop h (take h link ++ (w ++ drop (length link - h) (drop h link)))) k
found_back setup round st t link w h k e l lw f =
    let a : length (take h link) ≡ h = simp length-take (omega arith) in
    let b : drop (length link - h) (drop h link) ≡ [] = drop_of_length-le (drop h link) {i = length link - h} (rw (length-drop h link) (omega arith)) in
    let z : drop h (take h link ++ (w ++ drop (length link - h) (drop h link))) ≡ w = drop_at (take h link) (w ++ drop (length link - h) (drop h link)) h a ∙ ap (λ (v : List ℕ). w ++ v) b ∙ append-nil w in
    subst (λ (v : List ℕ). Found setup round st t v k) (sym z) f

pub all-zero : (room u : List ℕ) → u ≡ splice room 0 (replicate (length room) 0) → u ≡ replicate (length room) 0
unfolding splice
all-zero room u e =
    let l = length-replicate {A = ℕ} (length room) 0 in
    let b : drop (0 + length {A = ℕ} (replicate (length room) 0)) room ≡ [] = drop_of_length-le room {i = 0 + length {A = ℕ} (replicate (length room) 0)} (omega arith) in
    e ∙ rw b (append-nil (replicate (length room) 0))

-- zeros for as long as a room was
pub zero-stays : (room u v : List ℕ) → length u ≡ length room → v ≡ replicate (length u) 0 → v ≡ replicate (length room) 0
zero-stays room u v e f = f ∙ ap (λ (k : ℕ). replicate k 0) e

module _ (setup : List ℕ) (round : ℕ) (st t : List ℕ) (o : Opening setup round st t) where
  pub setup-reach : 8 ≤ length setup
  setup-reach = (valid-setup setup o.valid).long

  members-in : (c : Cert) → In c (held_of t) → c.origin < length (lasts_of st)
  members-in c i =
      let y = in-at (held_of t) c i in
      let l = y.1 in
      let a = length-held t in
      let b = length-lasts st in
      let d = o.state in
      let e = origin-below ((length setup - 8) / 69) t y.0 o.shape (omega arith) in
      let f : (cert_at (held_of t) y.0).origin ≡ c.origin = ap (λ (v : Cert). v.origin) y.2 in
      omega arith

  module _ (walk sort link : List ℕ) (n depth h k : ℕ) (en : n ≡ (length setup - 8) / 69) (ed : depth ≡ depth_of setup) (eh : h ≡ count_of t) (lw : length walk ≡ count_of t * 8) (ls : length sort ≡ count_of t * 8) (lk : length link ≡ count_of t * 8)
      (f : Found setup round st t (drop h link) k) where
    pub commit-ready : Ready n depth st t walk link sort
    commit-ready =
        let v = valid-setup setup o.valid in
        let m = valid (drop 8 setup) v.members in
        let m₁ = m.one in
        let m₂ = m.few in
        let l = length-drop 8 setup in
        let d : depth_of setup ≤ 4294967295 = v.deep in
        record {
          shape = rw en o.shape;
          one = rw (en, ← l) m₁;
          few = rw (en, ← l) m₂;
          state = rw en o.state;
          deep = omega arith;
          pile = omega arith;
          marks = omega arith;
          sort = omega arith;
        }

    pub commit-low : count_of t ≤ h
    commit-low = omega arith

    pub commit-high : h ≤ length link
    commit-high = omega arith

    pub commit-opened : Opened n st t (drop h link) k
    commit-opened = rw en f.opened

    pub commit-fits : (list : List ℕ) → places 1062 t * 37 ≤ length list → length (serve depth (leaders_of n (held_of t) (rounds_of (drop h link)) k) (state_of st t)).list * 37 ≤ length list
    unfolding state_of
    commit-fits list r =
        let g = serve-fits depth (leaders_of n (held_of t) (rounds_of (drop h link)) k) (state_of st t) (highest (lasts_of st)) members-in (omega arith) commit-opened.rises in
        let l = length-held t in
        let c = (is-table 1062 t (lawful ((length setup - 8) / 69) t o.shape).shape).room in
        omega arith

pub commit-done : (setup : List ℕ) (round : ℕ) (st t link list st' t' list' : List ℕ) (n depth h k m : ℕ) → n ≡ (length setup - 8) / 69 → depth ≡ depth_of setup → Found setup round st t (drop h link) k
    → Committed n depth st t list (leaders_of n (held_of t) (rounds_of (drop h link)) k) m st' t' list' → Commits setup round st t list m st' t' list'
commit-done setup round st t link list st' t' list' n depth h k m en ed f w =
    record {
      leaders = leaders_of ((length setup - 8) / 69) (held_of t) (rounds_of (drop h link)) k;
      order = f.order;
      done = subst (λ (v : ℕ). Committed ((length setup - 8) / 69) v st t list (leaders_of ((length setup - 8) / 69) (held_of t) (rounds_of (drop h link)) k) m st' t' list') ed
          (subst (λ (v : ℕ). Committed v depth st t list (leaders_of v (held_of t) (rounds_of (drop h link)) k) m st' t' list') en w);
    }

-- ---- a room lent in part

module _ (room : List ℕ) (w : ℕ) (h : w ≤ length room) where
  lent-part : length (take (w - 0) (drop 0 room)) ≡ w
  lent-part = simp (length-take, length-drop) (omega arith)

  pub part-size : (n : ℕ) → w ≡ n → length (take (w - 0) (drop 0 room)) ≡ n
  part-size n e = lent-part ∙ e

  pub part-zero : (v : List ℕ) → v ≡ replicate (length (take (w - 0) (drop 0 room))) 0 → take 0 room ++ (v ++ drop (w - 0) (drop 0 room)) ≡ splice room 0 (replicate w 0)
  unfolding splice
  part-zero v e =
      let z : v ≡ replicate w 0 = e ∙ ap (λ (k : ℕ). replicate k 0) lent-part in
      let l : 0 + length {A = ℕ} (replicate w 0) ≡ w - 0 = rw (length-replicate {A = ℕ} w 0) (omega arith) in
      rw (z, l)
