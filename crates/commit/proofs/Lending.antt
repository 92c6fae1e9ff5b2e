-- The link room lent in two parts: marks before place h, the leaders' rounds from it on. Assumes nothing.
use mathlib.Core.Path.{◌≡◌, refl, ap, ◌∙◌}
use mathlib.Core.List.{List, ◌++◌}
use Prim.Native.Nat.{ℕ, ◌+◌, ◌-◌, ◌*◌, ◌^◌, ◌≤◌, ◌<◌}
use native.Mathlib.Omega.{arith}
use lib.ListN.{length, get_or, take, drop, length-append, length-take, length-drop}
use lib.Seq.{drop_at, take_all}
use Rattle.table.specs.Rows.{count_of}
use Rattle.room.specs.Numbers.{rounds_of}
use Rattle.config.specs.Committee.{leader_place}
use Rattle.consensus.specs.Table.{pair_place, highest}
use Rattle.consensus.specs.Walk.{list_under}
use Rattle.consensus.specs.Listing.{serve}
use Rattle.held.specs.Rows.{held_of, lasts_of, state_of}
use Rattle.commit.specs.Commit.{leader_in, leaders_of, Ready, Turned, Opened, Committed}
use Rattle.commit.proofs.Serving.{Serves, serves-start, serves-fits, serves-present, serves-above, serves-room, serves-sum, serves-next, serves-done}

-- what is lent of the marks
part_length : (link : List ℕ) (h : ℕ) → h ≤ length link → length (take (h - 0) (drop 0 link)) ≡ h
part_length link h l = simp (length-take, length-drop) (omega arith)

-- and the room with the marks back in it
rest-stays : (link w : List ℕ) (h : ℕ) → length w ≡ h → drop h (take 0 link ++ (w ++ drop (h - 0) (drop 0 link))) ≡ drop h link
rest-stays link w h e = let z : h - 0 ≡ h = omega arith in drop_at w (drop (h - 0) (drop 0 link)) h e ∙ ap (λ (k : ℕ). drop k link) z

-- what is lent of the rounds
rounds-part : (link : List ℕ) (h : ℕ) → take (length link - h) (drop h link) ≡ drop h link
rounds-part link h = take_all (length link - h) (drop h link) (rw (length-drop h link) (omega arith))

pub record Lends (n depth : ℕ) (k h : ℕ) (st₀ t₀ p₀ link₀ o₀ list₀ st t p link o list : List ℕ) (left at : ℕ) : Type 0 where
  pub serves : Serves n depth (drop h link₀) k st₀ t₀ p₀ link₀ o₀ list₀ st t p link o list left at
  pub low : count_of t ≤ h
  pub high : h ≤ length link
  pub rounds : drop h link ≡ drop h link₀

module _ (n depth : ℕ) (k h : ℕ) (st₀ t₀ p₀ link₀ o₀ list₀ : List ℕ) (ready₀ : Ready n depth st₀ t₀ p₀ link₀ o₀) (low₀ : count_of t₀ ≤ h) (high₀ : h ≤ length link₀) (opened : Opened n st₀ t₀ (drop h link₀) k) where
  pub lends-start : Lends n depth k h st₀ t₀ p₀ link₀ o₀ list₀ st₀ t₀ p₀ link₀ o₀ list₀ k 0
  lends-start = record { serves = serves-start n depth (drop h link₀) k st₀ t₀ p₀ link₀ o₀ list₀ ready₀ opened; low = low₀; high = high₀; rounds = refl }

  module _ (st t p link o list : List ℕ) (left at : ℕ) (v : Lends n depth k h st₀ t₀ p₀ link₀ o₀ list₀ st t p link o list left at) where
    pub lends-done : left ≤ 0 → Committed n depth st₀ t₀ list₀ (leaders_of n (held_of t₀) (rounds_of (drop h link₀)) k) at st t list
    lends-done z = serves-done n depth (drop h link₀) k st₀ t₀ p₀ link₀ o₀ list₀ ready₀ opened st t p link o list left at v.serves z

    pub lends-high : h ≤ length link
    lends-high = v.high

    pub lends-ready : Ready n depth st t p (take (h - 0) (drop 0 link)) o
    lends-ready =
        let y = v.serves.ready in
        let l = part_length link h v.high in
        let a = v.low in
        record { shape = y.shape; one = y.one; few = y.few; state = y.state; deep = y.deep; pile = y.pile; marks = omega arith; sort = y.sort }

    module _ (more : 0 < left) where
      pub lends-fits : (left - 1) * 4 + 4 ≤ length (take (length link - h) (drop h link))
      lends-fits = rw (rounds-part link h, v.rounds) (serves-fits n depth (drop h link₀) k st₀ t₀ p₀ link₀ o₀ list₀ ready₀ opened st t p link o list left at v.serves more)

      module _ (r : ℕ) (er : r ≡ get_or (rounds_of (take (length link - h) (drop h link))) (left - 1) 0) where
        round_is : r ≡ get_or (rounds_of (drop h link₀)) (left - 1) 0
        round_is = er ∙ ap (λ (x : List ℕ). get_or (rounds_of x) (left - 1) 0) (rounds-part link h ∙ v.rounds)

        pub lends-present : pair_place (leader_place n r) r (held_of t) < count_of t
        lends-present = serves-present n depth (drop h link₀) k st₀ t₀ p₀ link₀ o₀ list₀ ready₀ opened st t p link o list left at v.serves more r round_is

        pub lends-above : highest (lasts_of st) < r
        lends-above = serves-above n depth (drop h link₀) k st₀ t₀ p₀ link₀ o₀ list₀ ready₀ opened st t p link o list left at v.serves more r round_is

        module _ (room : length (serve depth (leaders_of n (held_of t₀) (rounds_of (drop h link₀)) k) (state_of st₀ t₀)).list * 37 ≤ length list₀) where
          pub lends-room : (at + length (list_under depth (leader_in n (held_of t) r) (state_of st t))) * 37 ≤ length list
          lends-room = serves-room n depth (drop h link₀) k st₀ t₀ p₀ link₀ o₀ list₀ ready₀ opened st t p link o list left at v.serves more r round_is room

          module _ (x : ℕ) (st' t' list' : List ℕ) (w : Turned n depth st t list at (leader_in n (held_of t) r) x st' t' list') where
            pub lends-sum : (at + x) * 37 ≤ length list
            lends-sum = serves-sum n depth (drop h link₀) k st₀ t₀ p₀ link₀ o₀ list₀ ready₀ opened st t p link o list left at v.serves more r round_is room x st' t' list' w

            pub lends-next : (p' m' o' : List ℕ) → length st' ≡ length st → length t' ≡ length t → length p' ≡ length p → length m' ≡ length (take (h - 0) (drop 0 link)) → length o' ≡ length o → length list' ≡ length list
                → length t₀ < 256 ^ 8 → Lends n depth k h st₀ t₀ p₀ link₀ o₀ list₀ st' t' p' (take 0 link ++ (m' ++ drop (h - 0) (drop 0 link))) o' list' (left - 1) (at + x)
            lends-next p' m' o' es et ep em eo el small =
                let em' : length m' ≡ h = em ∙ part_length link h v.high in
                let hi = v.high in
                let ek : length (take 0 link ++ (m' ++ drop (h - 0) (drop 0 link))) ≡ length link = simp (length-append, length-drop) (omega arith) in
                let f = w.fewer in
                let a = v.low in
                record {
                  serves = serves-next n depth (drop h link₀) k st₀ t₀ p₀ link₀ o₀ list₀ ready₀ opened st t p link o list left at v.serves more r round_is room x st' t' list' w p' (take 0 link ++ (m' ++ drop (h - 0) (drop 0 link))) o' es et ep ek eo el small;
                  low = omega arith;
                  high = omega arith;
                  rounds = rest-stays link m' h em' ∙ v.rounds;
                }
