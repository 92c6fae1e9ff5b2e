-- A certificate put in, and what follows. Assumes nothing.
use mathlib.Core.Path.{◌≡◌, sym, ap, ◌∙◌, subst}
use mathlib.Core.Bool.{true, ◌||◌}
use mathlib.Core.List.{List}
use Prim.Native.Nat.{ℕ, ◌+◌, ◌-◌, ◌*◌, ◌/◌, ◌^◌, ◌≤◌, ◌<◌}
use native.Mathlib.Omega.{arith}
use lib.Dec.{ltb}
use lib.ListN.{length, drop, replicate, length-drop}
use Rattle.wire.specs.Bytes.{splice}
use Rattle.table.specs.Rows.{count_of, places}
use Rattle.table.proofs.Laws.{is-table, is-long, few-rows}
use Rattle.config.specs.Committee.{valid_setup}
use Rattle.config.proofs.Laws.{valid, valid-setup}
use Rattle.consensus.specs.Table.{Cert, insert, pair_place}
use Rattle.consensus.specs.Leaders.{decide}
use Rattle.held.specs.Rows.{held_of, held_shape, lasts_of, cert_with, table_with}
use Rattle.held.proofs.Laws.{lawful-shape}
use Rattle.held.proofs.Putting.{Fitting, certs-fit, With, with-is}
use Rattle.leaders.specs.Setup.{agreed_of, kind_of}
use Rattle.accept.specs.Commits.{Opening, Commits, Given, Opens, Rooms, zeroed}

pub few-members : (setup : List ℕ) → valid_setup setup ≡ true → (length setup - 8) / 69 ≤ 32
few-members setup v =
    let a = valid-setup setup v in
    let m = (valid (drop 8 setup) a.members).few in
    let l = length-drop 8 setup in
    rw (← l) m

module _ (setup : List ℕ) (o r : ℕ) (d ps st t l w s k : List ℕ) (G : Given setup o r d ps st t l w s k) where
  pub index-fits : o < 256
  index-fits = let f = few-members setup G.valid in let m = G.member in omega arith

  abbrev x : Cert
  x = cert_with o r d ps

  fit : Fitting x
  fit = certs-fit o r d ps G.digest G.whole G.few

  module _ (small : length t < 256 ^ 8) (p : (ltb (pair_place o r (held_of t)) (count_of t) || ltb (count_of t) (places 1062 t)) ≡ true) where
    pub held_with : With ((length setup - 8) / 69) x t (table_with x t)
    unfolding cert_with
    held_with =
        let h = G.high in
        let lo = G.low in
        with-is ((length setup - 8) / 69) x t fit (omega arith) G.member (λ z. omega arith) G.shape small p

    module _ (u : List ℕ) (e : u ≡ table_with x t) where
      u-shape : held_shape ((length setup - 8) / 69) u ≡ true
      u-shape = rw e held_with.shape

      u-size : length u ≡ length t
      u-size = ap length e ∙ held_with.size

      u-places : places 1062 u ≡ places 1062 t
      unfolding places
      u-places = ap (λ (v : ℕ). (v - 8) / 1062) u-size

      pub u-long : 8 ≤ length u
      u-long = is-long 1062 u (lawful-shape ((length setup - 8) / 69) u u-shape)

      pub u-few : count_of u * 8 + 8 ≤ length u
      u-few = let f = few-rows 1062 u (lawful-shape ((length setup - 8) / 69) u u-shape) in omega arith

      room_of : (room : List ℕ) → places 1062 t * 8 ≤ length room → (n : ℕ) → n ≡ count_of u → n * 8 ≤ length room
      room_of room h n en =
          let c = (is-table 1062 u (lawful-shape ((length setup - 8) / 69) u u-shape)).room in
          let q = u-places in
          omega arith

      pub u-walk : (n : ℕ) → n ≡ count_of u → n * 8 ≤ length w
      u-walk = room_of w G.walk

      pub u-sort : (n : ℕ) → n ≡ count_of u → n * 8 ≤ length s
      u-sort = room_of s G.sort

      pub u-link : (n : ℕ) → n ≡ count_of u → n * 8 ≤ length k
      u-link = room_of k G.link

      pub u-list : places 1062 u * 37 ≤ length l
      u-list = let q = u-places in let g = G.list in omega arith

      pub u-used : (n : ℕ) → n ≡ count_of u → n * 8 ≡ count_of u * 8
      u-used n en = ap (λ (v : ℕ). v * 8) en

      module _ (q : Opens setup x st t) where
        pub u-opening : Opening setup r st u
        unfolding cert_with
        u-opening =
            let h : held_of u ≡ insert x (held_of t) = ap held_of e ∙ held_with.held in
            record { valid = G.valid; shape = u-shape; state = G.state; opens = q.opens ∙ ap (λ (v : List Cert). kind_of (decide (agreed_of setup) r (lasts_of st) v)) (sym h) }

      pub u-rooms : (n : ℕ) (w' s' k' : List ℕ) → n ≡ count_of u → w' ≡ splice w 0 (replicate (n * 8) 0) → s' ≡ splice s 0 (replicate (n * 8) 0) → k' ≡ splice k 0 (replicate (n * 8) 0) → Rooms x t w s k w' s' k'
      unfolding zeroed
      u-rooms n w' s' k' en a b c =
          let z : n * 8 ≡ count_of (table_with x t) * 8 = ap (λ (v : ℕ). v * 8) (en ∙ ap count_of e) in
          record { walk = a ∙ ap (λ (v : ℕ). splice w 0 (replicate v 0)) z; sort = b ∙ ap (λ (v : ℕ). splice s 0 (replicate v 0)) z; link = c ∙ ap (λ (v : ℕ). splice k 0 (replicate v 0)) z }

      pub u-commits : (m : ℕ) (st' t' l' : List ℕ) → Commits setup r st u l m st' t' l' → Commits setup r st (table_with x t) l m st' t' l'
      u-commits m st' t' l' c = subst (λ (v : List ℕ). Commits setup r st v l m st' t' l') e c
