-- A leader's turn. Assumes nothing.
use mathlib.Core.Path.{◌≡◌, refl, sym, ap, ◌∙◌}
use mathlib.Core.Bool.{true}
use mathlib.Core.List.{List, map}
use Prim.Native.Nat.{ℕ, ◌+◌, ◌-◌, ◌*◌, ◌^◌, ◌≤◌, ◌<◌}
use native.Mathlib.Omega.{arith}
use lib.ListN.{length, take, drop, length-map, length-take, length-drop}
use lib.Seq.{length-take-le}
use Rattle.table.specs.Rows.{count_of, shaped}
use Rattle.room.specs.Numbers.{numbers_of}
use Rattle.room.proofs.Laws.{length-numbers}
use Rattle.wire.specs.Bytes.{splice}
use Rattle.config.specs.Committee.{leader_place}
use Rattle.consensus.specs.Among.{In}
use Rattle.consensus.specs.Table.{Cert, State, cert_at, pair_place, find, highest}
use Rattle.consensus.specs.Walk.{list_under, walk_from, drop_deep, by_round}
use Rattle.consensus.specs.Listing.{clear}
use Rattle.consensus.proofs.Lists.{at_in}
use Rattle.consensus.proofs.Find.{find-some}
use Rattle.consensus.proofs.Leading.{pair-round}
use Rattle.consensus.proofs.ClearOnce.{raise_all, turn-once}
use Rattle.held.specs.Rows.{held_of, lasts_of, state_of}
use Rattle.held.proofs.Laws.{length-held, digest-length}
use Rattle.dag.specs.Ordered.{Ordered}
use Rattle.update.specs.Update.{entries_of}
use Rattle.update.proofs.Laws.{Cleared, cleared, each-length}
use Rattle.commit.specs.Commit.{leader_in, Ready, StartOf, DueAt, Written, Turned}

module _ (t : List ℕ) (n r : ℕ) (o l : ℕ) (eo : o ≡ leader_place n r) (el : l ≡ pair_place o r (held_of t)) (h : pair_place (leader_place n r) r (held_of t) < count_of t) where
  pub leader-low : l < count_of t
  leader-low = let z : pair_place o r (held_of t) ≡ pair_place (leader_place n r) r (held_of t) = ap (λ (v : ℕ). pair_place v r (held_of t)) eo in omega arith

  leader-is : cert_at (held_of t) l ≡ leader_in n (held_of t) r
  unfolding leader_in
  leader-is = ap (cert_at (held_of t)) (el ∙ ap (λ (v : ℕ). pair_place v r (held_of t)) eo)

  low_held : l < length (held_of t)
  low_held = let a = leader-low in let b = length-held t in omega arith

  round_is : (cert_at (held_of t) l).round ≡ r
  round_is = pair-round o r (held_of t) l el low_held

  module _ (s : shaped 1062 t ≡ true) (d : List ℕ) (ed : d ≡ (cert_at (held_of t) l).digest) where
    pub leader-digest : length d ≡ 32
    leader-digest = ap length ed ∙ digest-length t l s leader-low

    pub start-low : find r d (held_of t) < count_of t
    start-low =
        let f = find-some r d (held_of t) (cert_at (held_of t) l) (at_in (held_of t) l low_held) round_is (sym ed) in
        let k = length-held t in
        omega arith

    pub start_is : (p : ℕ) → p ≡ find r d (held_of t) → StartOf n t r p
    start_is p ep =
        let a : r ≡ (leader_in n (held_of t) r).round = sym round_is ∙ ap (λ (c : Cert). c.round) leader-is in
        let b : d ≡ (leader_in n (held_of t) r).digest = ed ∙ ap (λ (c : Cert). c.digest) leader-is in
        let f = find-some r d (held_of t) (cert_at (held_of t) l) (at_in (held_of t) l low_held) round_is (sym ed) in
        let k = length-held t in
        record { is = ep ∙ ap (λ (v : ℕ). find v d (held_of t)) a ∙ ap (λ (v : List ℕ). find (leader_in n (held_of t) r).round v (held_of t)) b; low = omega arith }

module _ (st t : List ℕ) (n r depth p m : ℕ) (q q' f f' u u' : List ℕ) (e : StartOf n t r p) (w : Ordered st t depth p m q q' f f' u u') (room : count_of t * 8 ≤ length u) where
  pub due-at : DueAt depth st t (leader_in n (held_of t) r) u' m
  unfolding list_under state_of
  due-at =
      let a = w.few in
      let b = w.out in
      record {
        certs = w.certs ∙ ap (λ (v : ℕ). by_round (drop_deep depth (highest (lasts_of st)) (map (cert_at (held_of t)) (walk_from (state_of st t) v)))) e.is;
        low = record { each = w.low };
        room = omega arith;
      }

-- ---- marks lent for as many as are held

pub marks-lent : (marks t : List ℕ) (k : ℕ) → count_of t ≤ length marks → k ≡ count_of t → length (take (k - 0) (drop 0 marks)) ≡ count_of t
marks-lent marks t k h e = simp (length-take, length-drop) (omega arith)

-- ---- what is due, written

due-length : (st t : List ℕ) (depth : ℕ) (l : Cert) (u : List ℕ) (m : ℕ) → DueAt depth st t l u m → m ≡ length (list_under depth l (state_of st t))
due-length st t depth l u m d =
    let a : length (map (cert_at (held_of t)) (take m (numbers_of u))) ≡ length (list_under depth l (state_of st t)) = ap length d.certs in
    let b = length-map (take m (numbers_of u)) (cert_at (held_of t)) in
    let c = length-numbers u in
    let e = d.room in
    let f = length-take-le m (numbers_of u) (omega arith) in
    omega arith

pub due-room : (st t : List ℕ) (depth : ℕ) (l : Cert) (u : List ℕ) (m at : ℕ) (list : List ℕ) → DueAt depth st t l u m → (at + length (list_under depth l (state_of st t))) * 37 ≤ length list
    → (at + m) * 37 ≤ length list
due-room st t depth l u m at list d h = let e = due-length st t depth l u m d in omega arith

-- state_of, as a whole
state-is : (st st' t t' : List ℕ) (s : State) → lasts_of st' ≡ s.last → held_of t' ≡ s.held → state_of st' t' ≡ s
unfolding state_of
state-is st st' t t' s a b =
    let k : ◌≡◌ {A = State} (record { last = lasts_of st'; held = held_of t' }) (record { last = s.last; held = s.held }) = rw (a, b) in
    k

module _ (n depth r at m : ℕ) (st t list u st' t' list' p q o : List ℕ) (ready : Ready n depth st t p q o) (h : pair_place (leader_place n r) r (held_of t) < count_of t) (above : highest (lasts_of st) < r)
    (d : DueAt depth st t (leader_in n (held_of t) r) u m) (w : Written depth st t list at (map (cert_at (held_of t)) (take m (numbers_of u))) st' t' list')
    (room : (at + length (list_under depth (leader_in n (held_of t) r) (state_of st t))) * 37 ≤ length list) (small : length t < 256 ^ 8) where
  abbrev l : Cert
  l = leader_in n (held_of t) r

  abbrev s : State
  s = state_of st t

  low : pair_place (leader_place n r) r (held_of t) < length (held_of t)
  low = let b = length-held t in omega arith

  held-leader : In l (held_of t)
  unfolding leader_in
  held-leader = at_in (held_of t) (pair_place (leader_place n r) r (held_of t)) low

  leader-round : l.round ≡ r
  unfolding leader_in
  leader-round = pair-round (leader_place n r) r (held_of t) (pair_place (leader_place n r) r (held_of t)) refl low

  raised : lasts_of st' ≡ raise_all (list_under depth l s) (lasts_of st)
  raised = w.raised ∙ ap (λ (v : List Cert). raise_all v (lasts_of st)) d.certs

  gone : Cleared n depth (lasts_of st') t t'
  gone = cleared n depth (lasts_of st') t t' ready.shape small w.table

  long : length (entries_of (list_under depth l s)) ≡ m * 37
  long =
      ap (λ (v : List Cert). length (entries_of v)) (sym d.certs)
      ∙ each-length t u list n m at ready.shape d.low d.room (due-room st t depth l u m at list d room) m (omega arith)

  pub turned : Turned n depth st t list at (leader_in n (held_of t) r) m st' t' list'
  unfolding state_of
  turned =
      let e = leader-round in
      let once = turn-once depth l s held-leader (omega arith) in
      record {
        count = due-length st t depth l u m d;
        entries = w.entries ∙ ap (λ (v : List Cert). splice list (at * 37) (entries_of v)) d.certs;
        state =
            state-is st st' t t' (record { last = raise_all (list_under depth l s) (lasts_of st); held = clear depth (raise_all (list_under depth l s) (lasts_of st)) (highest (raise_all (list_under depth l s) (lasts_of st))) (held_of t) })
            raised (gone.held ∙ ap (λ (v : List ℕ). clear depth v (highest v) (held_of t)) raised)
            ∙ sym once;
        table = w.table;
        shape = gone.shape;
        fewer = gone.fewer;
        long = long;
      }
