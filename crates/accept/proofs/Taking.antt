-- A call in the domain: each course and what it leaves. Assumes nothing.
use mathlib.Core.Path.{◌≡◌, refl, sym, ap, ◌∙◌, subst}
use mathlib.Core.Bool.{Bool, true, false, ◌||◌}
use mathlib.Core.List.{List, []}
use Prim.Native.Nat.{ℕ, ◌-◌, ◌/◌, ◌^◌, ◌≤◌, ◌<◌}
use native.Mathlib.Omega.{arith}
use borrow.Author.Tests.{ne_eqb, lt-ltb}
use lib.Dec.{eqb, ltb}
use lib.ListN.{length, get_or}
use Rattle.wire.specs.Bytes.{splice}
use Rattle.table.specs.Rows.{count_of, places}
use Rattle.sweep.specs.Kept.{kept}
use Rattle.config.specs.Committee.{depth_of}
use Rattle.consensus.specs.Candidates.{Falling}
use Rattle.consensus.specs.Table.{Cert, State, insert, pair_place, highest}
use Rattle.consensus.specs.Leaders.{Agreed, decide, opens}
use Rattle.consensus.specs.Listing.{serve}
use Rattle.consensus.specs.Order.{Called, accept, listed, put, refuse}
use Rattle.consensus.proofs.Editions.{falling1}
use Rattle.consensus.proofs.Settling.{opens-rise, opens-some}
use Rattle.held.specs.Rows.{held_of, lasts_of, state_of, cert_with, table_with}
use Rattle.held.proofs.Laws.{length-held}
use Rattle.held.proofs.Putting.{holds-place}
use Rattle.update.specs.Update.{entries_of, stays_row}
use Rattle.leaders.specs.Setup.{agreed_of, kind_of}
use Rattle.leaders.proofs.Agreeing.{agreed-many, agreed-edition}
use Rattle.ordering.specs.Answers.{when_done}
use Rattle.refusal.specs.Answers.{Answer, number_of}
use Rattle.accept.specs.Accept.{called_for, refusal, answer_of, list_of, last_bytes, when_listed, Leaves, Taken}
use Rattle.accept.specs.Commits.{Given, Opens, Commits, Rooms}
use Rattle.accept.specs.Course.{course_of}
use Rattle.std.specs.Prelude.{Result, Ok, Err}
use Rattle.refusal.specs.declared.Refusal.{Refusal}
use Rattle.accept.proofs.Bytes.{last-bytes}
use Rattle.accept.proofs.Holding.{held_with}
use Rattle.accept.proofs.Outcomes.{outcome, course-bare, serve-some, strange}
use Rattle.accept.proofs.Outcomes as outcomes

falls : (setup : List ℕ) → Falling (agreed_of setup).candidates
falls setup = subst Falling (sym (agreed-edition setup)) falling1

-- a refusal changes nothing
leaves-old : (setup : List ℕ) (x : Cert) (a : Answer) (st t l w s k : List ℕ) → ((new old : List ℕ) → when_listed a new old ≡ old) → ((new old : List ℕ) → when_done a new old ≡ old) → Leaves setup x a st t l w s k st t l w s k
leaves-old setup x a st t l w s k f g =
    record {
      state = sym (f (last_bytes (called_for setup x st t).state.last) st);
      table = sym (g _ t);
      list = sym (f _ l);
      walk = sym (f _ w);
      sort = sym (f _ s);
      link = sym (f _ k);
    }

module _ (setup : List ℕ) (o r : ℕ) (d ps st t l w s k : List ℕ) (G : Given setup o r d ps st t l w s k) where
  abbrev x : Cert
  x = cert_with o r d ps

  abbrev a : Agreed
  a = agreed_of setup

  t₁ : eqb x.round 0 ≡ false
  unfolding cert_with
  t₁ = let h = G.low in ne_eqb r 0 (λ z. omega arith)

  t₂ : ltb x.origin (length a.stakes) ≡ true
  unfolding cert_with
  t₂ = let h = G.member in let e = agreed-many setup in lt-ltb o (length a.stakes) (omega arith)

  way : (c : Result Bool Refusal) → c ≡ course_of a (places 1062 t) (state_of st t) (record { origin = o; round = r; digest = d; parents = [] }) → outcomes.Outcome a (falls setup) (places 1062 t) (state_of st t) x t₁ t₂ c
  unfolding cert_with
  way c e = outcome a (falls setup) (places 1062 t) (state_of st t) x t₁ t₂ c (e ∙ course-bare a (places 1062 t) (state_of st t) x)

  refused_as : (n : ℕ) (b : Answer) → accept a (places 1062 t) (state_of st t) x ≡ refuse n (state_of st t) → b ≡ refusal n → b ≡ answer_of (called_for setup x st t).answer
  unfolding called_for
  refused_as n b e f = f ∙ sym (ap (λ (c : Called). answer_of c.answer) e)

  pub taken_refused : (c : Result Bool Refusal) → c ≡ course_of (agreed_of setup) (places 1062 t) (state_of st t) (record { origin = o; round = r; digest = d; parents = [] }) → (e : Refusal) → c ≡ Err e → Taken setup (cert_with o r d ps) (Err e) st t l w s k st t l w s k
  unfolding when_listed when_done
  taken_refused c q e f =
      let y = way (Err e) (sym f ∙ q) in
      record { answer = refused_as (number_of e) (Err e) y.called y.named; leaves = leaves-old setup x (Err e) st t l w s k (λ u v. refl) (λ u v. refl) }

  place-as : (holds : Bool) → holds ≡ ltb (pair_place x.origin x.round (held_of t)) (length (held_of t)) → (holds || ltb (length (held_of t)) (places 1062 t)) ≡ true
      → (ltb (pair_place o r (held_of t)) (count_of t) || ltb (count_of t) (places 1062 t)) ≡ true
  unfolding cert_with
  place-as holds e h = rw (← length-held t) (rw e at h)

  module _ (c : Result Bool Refusal) (e : c ≡ course_of (agreed_of setup) (places 1062 t) (state_of st t) (record { origin = o; round = r; digest = d; parents = [] })) where
    -- it is held, and opens nothing
    pub hold-place : c ≡ Ok false → (ltb (pair_place o r (held_of t)) (count_of t) || ltb (count_of t) (places 1062 t)) ≡ true
    unfolding state_of
    hold-place f = place-as _ (holds-place x (held_of t)) (way (Ok false) (sym f ∙ e)).place

    pub taken-hold : c ≡ Ok false → (u : List ℕ) → u ≡ table_with (cert_with o r d ps) t → Taken setup (cert_with o r d ps) (Ok 0) st t l w s k st u l w s k
    unfolding when_listed when_done called_for
    taken-hold f u g =
        record {
          answer = sym (ap (λ (v : Called). answer_of v.answer) (way (Ok false) (sym f ∙ e)).called);
          leaves = record { state = refl; table = g; list = refl; walk = refl; sort = refl; link = refl };
        }

    -- it is held, and opens a commit
    pub commit-opens : c ≡ Ok true → Opens setup (cert_with o r d ps) st t
    unfolding state_of put cert_with
    commit-opens f =
        let y = way (Ok true) (sym f ∙ e) in
        record { place = place-as _ (holds-place x (held_of t)) y.place; opens = sym (ap kind_of y.decided) }

    module _ (f : c ≡ Ok true) (small : length t < 256 ^ 8) (m : ℕ) (st' t' l' w' s' k' : List ℕ) (C : Commits setup r st (table_with (cert_with o r d ps) t) l m st' t' l')
        (R : Rooms (cert_with o r d ps) t w s k w' s' k') (size : length st' ≡ length st) (low : (i : ℕ) → get_or st' i 0 < 256) where
      abbrev T : List ℕ
      T = table_with (cert_with o r d ps) t

      O : outcomes.Opened a (falls setup) (places 1062 t) (state_of st t) x t₁ t₂
      O = way (Ok true) (sym f ∙ e)

      put-held : held_of T ≡ insert x (held_of t)
      unfolding cert_with
      put-held = (held_with setup o r d ps st t l w s k G small (commit-opens f).place).held

      put-state : state_of st T ≡ put x (state_of st t)
      unfolding state_of put
      put-state = let q : ◌≡◌ {A = State} (record { last = lasts_of st; held = held_of T }) (record { last = lasts_of st; held = insert x (held_of t) }) = rw put-held in q

      same-leaders : C.leaders ≡ O.leaders
      unfolding state_of put cert_with
      same-leaders =
          let p : opens C.leaders ≡ opens O.leaders = sym C.order ∙ ap (λ (v : List Cert). decide a r (lasts_of st) v) put-held ∙ O.decided in
          inj C.leaders O.leaders p
        where
          inj : (us vs : List Cert) → opens us ≡ opens vs → us ≡ vs
          inj us vs q = cc

      -- the definition's call, with the leaders and the state that the bytes have
      is-called : (called_for setup x st t).answer ≡ listed (serve (depth_of setup) C.leaders (state_of st T)).list
      unfolding called_for agreed_of
      is-called =
          ap (λ (v : Called). v.answer) O.called
          ∙ ap (λ (v : List Cert). listed (serve (depth_of setup) v (put x (state_of st t))).list) (sym same-leaders)
          ∙ ap (λ (v : State). listed (serve (depth_of setup) C.leaders v).list) (sym put-state)

      is_state : (called_for setup x st t).state ≡ (serve (depth_of setup) C.leaders (state_of st T)).state
      unfolding called_for agreed_of
      is_state =
          ap (λ (v : Called). v.state) O.called
          ∙ ap (λ (v : List Cert). (serve (depth_of setup) v (put x (state_of st t))).state) (sym same-leaders)
          ∙ ap (λ (v : State). (serve (depth_of setup) C.leaders v).state) (sym put-state)

      some : 1 ≤ m
      unfolding state_of
      some =
          let b = opens-some a r (lasts_of st) (held_of T) C.leaders C.order in
          let g = opens-rise a r (lasts_of st) (held_of T) C.leaders C.order (agreed-edition setup) in
          let n = serve-some (depth_of setup) C.leaders (state_of st T) (highest (lasts_of st)) b (omega arith) g in
          let z = C.done.count in
          omega arith

      lasts : lasts_of st' ≡ (called_for setup x st t).state.last
      unfolding state_of
      lasts = ap (λ (v : State). v.last) C.done.state ∙ sym (ap (λ (v : State). v.last) is_state)

      not-0 : eqb m 0 ≡ false
      not-0 = let h = some in ne_eqb m 0 (λ z. omega arith)

      new : (v old : List ℕ) → when_listed (Ok m) v old ≡ v
      unfolding when_listed
      new v old = rw (not-0, when_listed)

      pub taken-commit : Taken setup (cert_with o r d ps) (Ok m) st t l w s k st' t' l' w' s' k'
      unfolding when_done
      taken-commit =
          record {
            answer = ap Ok C.done.count ∙ sym (ap answer_of is-called);
            leaves = record {
              state = last-bytes st' ((length setup - 8) / 69) (size ∙ G.state) low ∙ ap last_bytes lasts ∙ sym (new _ st);
              table = C.done.table ∙ ap (λ (v : List ℕ). kept 1062 (stays_row (depth_of setup) v) T) lasts ∙ sym (new _ T);
              list = C.done.entries ∙ sym (ap (λ (v : _). splice l 0 (entries_of (list_of v))) is-called) ∙ sym (new _ l);
              walk = R.walk ∙ sym (new _ w);
              sort = R.sort ∙ sym (new _ s);
              link = R.link ∙ sym (new _ k);
            };
          }
