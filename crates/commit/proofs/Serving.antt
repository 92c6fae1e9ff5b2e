-- The leaders of a commit served one after the other. Assumes nothing.
use mathlib.Core.Path.{◌≡◌, refl, sym, ap, ◌∙◌, subst}
use mathlib.Core.Bool.{Bool, true, false}
use mathlib.Core.List.{List, [], ◌∷◌, ◌++◌, append_assoc}
use mathlib.Core.Logic.{◌⊎◌, inl, inr}
use Prim.Native.Nat.{ℕ, zero, suc, ◌+◌, ◌-◌, ◌*◌, ◌^◌, ◌≤◌, ◌<◌}
use native.Mathlib.Nat.{add-mul}
use native.Mathlib.Omega.{arith}
use lib.ListN.{length, get_or, replicate, length-append, length-replicate, replicate-append-replicate}
use Rattle.wire.specs.Bytes.{splice}
use Rattle.wire.specs.Items.{flat, keeps}
use Rattle.wire.proofs.Laws.{true-not-false}
use Rattle.wire.proofs.Lists.{keeps_fewer, splice-next}
use Rattle.table.specs.Rows.{count_of, shaped, rows_of, past_of, packed}
use Rattle.table.proofs.Laws.{is-table, After}
use Rattle.sweep.specs.Kept.{kept, went}
use Rattle.sweep.proofs.Laws.{kept-after}
use Rattle.room.specs.Numbers.{rounds_of}
use Rattle.config.specs.Committee.{leader_place}
use Rattle.consensus.specs.Among.{In}
use Rattle.consensus.specs.Candidates.{edition1}
use Rattle.consensus.specs.Leaders.{Agreed, leader, present}
use Rattle.consensus.specs.Table.{Cert, State, cert_at, pair_place, highest}
use Rattle.consensus.specs.Walk.{list_under}
use Rattle.consensus.specs.Listing.{Fate, stays, goes, fate, Served, list_all, serve}
use Rattle.consensus.proofs.Lists.{in-at}
use Rattle.consensus.proofs.Listing.{stays-means, stays-when}
use Rattle.consensus.proofs.ClearOnce.{raise_all, raise-all-le, highest-mono}
use Rattle.consensus.proofs.Clearing.{Serving, serving-start, serving-leader, serving-up, serving-next, serving-room, serving-list, serving-state, all-last}
use Rattle.consensus.proofs.Leading.{leader-at, leader-place, leader-cert, pair-round}
use Rattle.held.specs.Rows.{cert_of, held_of, lasts_of, state_of}
use Rattle.held.proofs.Laws.{length-held, length-lasts, lawful-shape, origin-below}
use Rattle.update.specs.Update.{entry_of, entries_of, is_stays, stays_row}
use Rattle.commit.specs.Commit.{leader_in, leaders_of, Ready, Turned, Opened, Committed}

-- ---- rows kept twice, the second time by a stricter test, are the rows kept once by it

keeps-twice : (p q : List ℕ → Bool) (rs : List (List ℕ)) → ((r : List ℕ) → q r ≡ true → p r ≡ true) → keeps q (keeps p rs) ≡ keeps q rs
unfolding keeps
keeps-twice p q [] h = refl
keeps-twice p q (r ∷ rs) h = go (keeps-twice p q rs h) (p r) refl (q r) refl
  where
    go : keeps q (keeps p rs) ≡ keeps q rs → (b : Bool) → p r ≡ b → (d : Bool) → q r ≡ d → keeps q (keeps p (r ∷ rs)) ≡ keeps q (r ∷ rs)
    go ih true e true f = rw (e, keeps) (rw (f, keeps) (ap (λ (v : List (List ℕ)). r ∷ v) ih))
    go ih true e false f = rw (e, keeps) (rw (f, keeps) ih)
    go ih false e true f = absurd (true-not-false (sym (h r f) ∙ e))
    go ih false e false f = rw (e, f, keeps) ih

-- the bytes that keeping leaves, of a table that holds rows rs and rest past them
kept_of : (size : ℕ) (q : List ℕ → Bool) (t u : List ℕ) (rs : List (List ℕ)) (rest : List ℕ) → After size t u rs rest
    → kept size q u ≡ packed (keeps q rs) (replicate ((length rs - length (keeps q rs)) * size) 0 ++ rest)
unfolding kept went
kept_of size q t u rs rest a = rw (a.rows, a.past, a.count)

pub kept-twice : (size : ℕ) (p q : List ℕ → Bool) (t : List ℕ) → shaped size t ≡ true → length t < 256 ^ 8 → ((r : List ℕ) → q r ≡ true → p r ≡ true)
    → kept size q (kept size p t) ≡ kept size q t
unfolding kept went
kept-twice size p q t s b h =
    let x = is-table size t s in
    let rs : List (List ℕ) = rows_of size t in
    let ps : List (List ℕ) = keeps p rs in
    let qs : List (List ℕ) = keeps q rs in
    let e : keeps q ps ≡ qs = keeps-twice p q rs h in
    let e' : length (keeps q ps) ≡ length qs = ap length e in
    let fp = keeps_fewer p rs in
    let fq = keeps_fewer q ps in
    let m = x.many in
    let n : (length ps - length qs) + (count_of t - length ps) ≡ count_of t - length qs = omega arith in
    let w : (length ps - length qs) * size + (count_of t - length ps) * size ≡ (count_of t - length qs) * size = sym (add-mul (length ps - length qs) (count_of t - length ps) size) ∙ ap (λ (k : ℕ). k * size) n in
    let z : replicate {A = ℕ} ((length ps - length qs) * size) 0 ++ (replicate ((count_of t - length ps) * size) 0 ++ past_of size t) ≡ replicate ((count_of t - length qs) * size) 0 ++ past_of size t =
    sym (append_assoc (replicate ((length ps - length qs) * size) 0) (replicate ((count_of t - length ps) * size) 0) (past_of size t))
    ∙ ap (λ (v : List ℕ). v ++ past_of size t) (replicate-append-replicate ((length ps - length qs) * size) ((count_of t - length ps) * size) 0 ∙ ap (λ (k : ℕ). replicate k 0) w) in
    kept_of size q t (kept size p t) ps (replicate ((count_of t - length ps) * size) 0 ++ past_of size t) (kept-after size p t s b)
    ∙ ap (λ (v : List (List ℕ)). packed v (replicate ((length ps - length v) * size) 0 ++ (replicate ((count_of t - length ps) * size) 0 ++ past_of size t))) e
    ∙ ap (packed qs) z

-- ---- what stays under later last committed rounds stays under earlier ones

is-stays : (f : Fate) → is_stays f ≡ true → f ≡ stays
is-stays stays e = refl
is-stays (goes w) e = absurd (true-not-false (sym e))

pub stays-earlier : (depth : ℕ) (l l' : List ℕ) → ((o : ℕ) → get_or l o 0 ≤ get_or l' o 0) → (row : List ℕ) → stays_row depth l' row ≡ true → stays_row depth l row ≡ true
unfolding stays_row
stays-earlier depth l l' m row e =
    let y = stays-means depth l' (highest l') (cert_of row) (is-stays (fate depth l' (highest l') (cert_of row)) e) in
    let y₀ = y.0 in
    let y₁ = y.1 in
    let a = m (cert_of row).origin in
    let b = highest-mono l l' m in
    ap is_stays (stays-when depth l (highest l) (cert_of row) (omega arith) (omega arith))

-- ---- entries behind entries

entries-append : (cs ds : List Cert) → entries_of (cs ++ ds) ≡ entries_of cs ++ entries_of ds
unfolding entries_of flat
entries-append [] ds = refl
entries-append (c ∷ cs) ds = ap (λ (v : List ℕ). entry_of c ++ v) (entries-append cs ds) ∙ sym (append_assoc (entry_of c) (entries_of cs) (entries_of ds))

splice-none : (xs : List ℕ) → splice xs 0 [] ≡ xs
unfolding splice
splice-none xs = refl

-- ---- the leader of a round, as the definitions have it

-- the definitions ask only how many stakes there are
abbrev pub agreed : ℕ → ℕ → Agreed
agreed n depth = record { stakes = replicate n 1; depth = depth; candidates = edition1 }

module _ (n depth r : ℕ) (held : List Cert) where
  place_is : pair_place (leader_place n r) r held ≡ pair_place (leader_place (length (agreed n depth).stakes) r) r held
  place_is = ap (λ (k : ℕ). pair_place (leader_place k r) r held) (sym (length-replicate {A = ℕ} n 1))

  module _ (h : pair_place (leader_place n r) r held < length held) where
    in-round : (leader_in n held r).round ≡ r
    unfolding leader_in
    in-round = pair-round (leader_place n r) r held (pair_place (leader_place n r) r held) refl h

    in-leads : leader (agreed n depth) (leader_in n held r).round held ≡ present (leader_in n held r)
    unfolding leader_in
    in-leads = ap (λ (k : ℕ). leader (agreed n depth) k held) in-round ∙ leader-at (agreed n depth) r held (pair_place (leader_place n r) r held) place_is h

  module _ (c : Cert) (e : c.round ≡ r) (p : leader (agreed n depth) c.round held ≡ present c) where
    leads-here : leader (agreed n depth) r held ≡ present c
    leads-here = ap (λ (k : ℕ). leader (agreed n depth) k held) (sym e) ∙ p

    leads-place : pair_place (leader_place n r) r held < length held
    leads-place = leader-place (agreed n depth) r held (pair_place (leader_place n r) r held) place_is c leads-here

    leads-is : leader_in n held r ≡ c
    unfolding leader_in
    leads-is = leader-cert (agreed n depth) r held (pair_place (leader_place n r) r held) place_is c leads-here

-- ---- the loop: st₀ to list₀ are the slices as it starts, st to list as a turn starts; out is listed so far

abbrev pub whole : ℕ → ℕ → List ℕ → ℕ → List ℕ → List ℕ → Served
whole n depth rounds k st t = serve depth (leaders_of n (held_of t) (rounds_of rounds) k) (state_of st t)

pub record Serves (n depth : ℕ) (rounds : List ℕ) (k : ℕ) (st₀ t₀ p₀ m₀ o₀ list₀ st t p m o list : List ℕ) (left at : ℕ) : Type 0 where
  pub ready : Ready n depth st t p m o
  pub out : List Cert
  pub on : Serving (agreed n depth) depth (whole n depth rounds k st₀ t₀) (state_of st t) out (leaders_of n (held_of t₀) (rounds_of rounds) left)
  pub few : left ≤ k
  pub number : at ≡ length out
  pub long : length (entries_of out) ≡ at * 37
  pub entries : list ≡ splice list₀ 0 (entries_of out)
  pub cleared : ((left ≡ k) × (t ≡ t₀)) ⊎ (t ≡ kept 1062 (stays_row depth (lasts_of st)) t₀)
  pub states : length st ≡ length st₀
  pub tables : length t ≡ length t₀
  pub piles : length p ≡ length p₀
  pub marks : length m ≡ length m₀
  pub sorts : length o ≡ length o₀
  pub lists : length list ≡ length list₀

module _ (n depth : ℕ) (rounds : List ℕ) (k : ℕ) (st₀ t₀ p₀ m₀ o₀ list₀ : List ℕ) (ready₀ : Ready n depth st₀ t₀ p₀ m₀ o₀) (opened : Opened n st₀ t₀ rounds k) where
  leader-low : (i : ℕ) → i < k → pair_place (leader_place n (get_or (rounds_of rounds) i 0)) (get_or (rounds_of rounds) i 0) (held_of t₀) < length (held_of t₀)
  leader-low i h = let a = opened.present i h in let b = length-held t₀ in omega arith

  leading : (j : ℕ) → j ≤ k → (c : Cert) → In c (leaders_of n (held_of t₀) (rounds_of rounds) j) → leader (agreed n depth) c.round (held_of t₀) ≡ present c
  unfolding leaders_of
  leading zero h c i = absurd i
  leading (suc j) h c (inl z) = rw z (in-leads n depth (get_or (rounds_of rounds) j 0) (held_of t₀) (leader-low j h))
  leading (suc j) h c (inr i) = leading j (omega arith) c i

  members : (c : Cert) → In c (held_of t₀) → c.origin < length (lasts_of st₀)
  members c i =
      let y = in-at (held_of t₀) c i in
      let l = y.1 in
      let a = length-held t₀ in
      let b = length-lasts st₀ in
      let d = ready₀.state in
      let e = origin-below n t₀ y.0 ready₀.shape (omega arith) in
      let f : (cert_at (held_of t₀) y.0).origin ≡ c.origin = ap (λ (v : Cert). v.origin) y.2 in
      omega arith

  pub serves-start : Serves n depth rounds k st₀ t₀ p₀ m₀ o₀ list₀ st₀ t₀ p₀ m₀ o₀ list₀ k 0
  unfolding state_of entries_of flat
  serves-start =
      record {
        ready = ready₀;
        out = [];
        on = serving-start (agreed n depth) depth (state_of st₀ t₀) (leaders_of n (held_of t₀) (rounds_of rounds) k) members opened.rises (leading k (omega arith));
        few = omega arith;
        number = refl;
        long = refl;
        entries = sym (splice-none list₀);
        cleared = inl (refl, refl);
        states = refl;
        tables = refl;
        piles = refl;
        marks = refl;
        sorts = refl;
        lists = refl;
      }

  leaders-next : (left j : ℕ) → left ≡ suc j → leaders_of n (held_of t₀) (rounds_of rounds) left ≡ leader_in n (held_of t₀) (get_or (rounds_of rounds) j 0) ∷ leaders_of n (held_of t₀) (rounds_of rounds) j
  unfolding leaders_of
  leaders-next left j e = ap (leaders_of n (held_of t₀) (rounds_of rounds)) e

  module _ (st t p m o list : List ℕ) (left at : ℕ) (v : Serves n depth rounds k st₀ t₀ p₀ m₀ o₀ list₀ st t p m o list left at) where
    pub serves-done : left ≤ 0 → Committed n depth st₀ t₀ list₀ (leaders_of n (held_of t₀) (rounds_of rounds) k) at st t list
    unfolding leaders_of
    serves-done h =
        let z : left ≡ 0 = omega arith in
        let q : Serving (agreed n depth) depth (whole n depth rounds k st₀ t₀) (state_of st t) v.out [] =
        subst (λ (x : ℕ). Serving (agreed n depth) depth (whole n depth rounds k st₀ t₀) (state_of st t) v.out (leaders_of n (held_of t₀) (rounds_of rounds) x)) z v.on in
        let e : v.out ≡ (whole n depth rounds k st₀ t₀).list = serving-list (agreed n depth) depth (whole n depth rounds k st₀ t₀) (state_of st t) v.out q in
        record {
          count = v.number ∙ ap length e;
          entries = v.entries ∙ ap (λ (x : List Cert). splice list₀ 0 (entries_of x)) e;
          state = serving-state (agreed n depth) depth (whole n depth rounds k st₀ t₀) (state_of st t) v.out q;
          table = once v.cleared z;
          shape = v.ready.shape;
        }
      where
        once : ((left ≡ k) × (t ≡ t₀)) ⊎ (t ≡ kept 1062 (stays_row depth (lasts_of st)) t₀) → left ≡ 0 → t ≡ kept 1062 (stays_row depth (lasts_of st)) t₀
        once (inl y) z = let a = y.0 in let b = opened.some in absurd (omega arith)
        once (inr e) z = e

    module _ (more : 0 < left) where
      pub serves-fits : (left - 1) * 4 + 4 ≤ length rounds
      serves-fits = let a = v.few in let b = opened.room in omega arith

      module _ (r : ℕ) (er : r ≡ get_or (rounds_of rounds) (left - 1) 0) where
        l : Cert
        l = leader_in n (held_of t₀) r

        later : List Cert
        later = leaders_of n (held_of t₀) (rounds_of rounds) (left - 1)

        next-on : Serving (agreed n depth) depth (whole n depth rounds k st₀ t₀) (state_of st t) v.out (l ∷ later)
        unfolding l later
        next-on =
            let z : leaders_of n (held_of t₀) (rounds_of rounds) left ≡ leader_in n (held_of t₀) r ∷ leaders_of n (held_of t₀) (rounds_of rounds) (left - 1) =
            leaders-next left (left - 1) (omega arith) ∙ ap (λ (x : ℕ). leader_in n (held_of t₀) x ∷ leaders_of n (held_of t₀) (rounds_of rounds) (left - 1)) (sym er) in
            subst (Serving (agreed n depth) depth (whole n depth rounds k st₀ t₀) (state_of st t) v.out) z v.on

        round_is : l.round ≡ r
        unfolding l
        round_is =
            let a = v.few in
            let b = in-round n depth (get_or (rounds_of rounds) (left - 1) 0) (held_of t₀) (leader-low (left - 1) (omega arith)) in
            ap (λ (x : ℕ). (leader_in n (held_of t₀) x).round) er ∙ b ∙ sym er

        leads : leader (agreed n depth) l.round (held_of t) ≡ present l
        unfolding state_of
        leads = serving-leader (agreed n depth) depth (whole n depth rounds k st₀ t₀) (state_of st t) v.out l later next-on

        -- the round's leader is the one it was
        same-leader : leader_in n (held_of t) r ≡ l
        same-leader = leads-is n depth r (held_of t) l round_is leads

        -- what its turn asks
        pub serves-present : pair_place (leader_place n r) r (held_of t) < count_of t
        serves-present = let a = leads-place n depth r (held_of t) l round_is leads in let b = length-held t in omega arith

        pub serves-above : highest (lasts_of st) < r
        unfolding state_of
        serves-above = let a = serving-up (agreed n depth) depth (whole n depth rounds k st₀ t₀) (state_of st t) v.out l later next-on in let b = round_is in omega arith

        module _ (room : length (whole n depth rounds k st₀ t₀).list * 37 ≤ length list₀) where
          pub serves-room : (at + length (list_under depth (leader_in n (held_of t) r) (state_of st t))) * 37 ≤ length list
          serves-room =
              let a = serving-room (agreed n depth) depth (whole n depth rounds k st₀ t₀) (state_of st t) v.out l later next-on in
              let b : length (list_under depth (leader_in n (held_of t) r) (state_of st t)) ≡ length (list_under depth l (state_of st t)) = ap (λ (c : Cert). length (list_under depth c (state_of st t))) same-leader in
              let c = v.number in
              let d = v.lists in
              omega arith

          module _ (x : ℕ) (st' t' list' : List ℕ) (w : Turned n depth st t list at (leader_in n (held_of t) r) x st' t' list') where
            -- the count fits
            pub serves-sum : (at + x) * 37 ≤ length list
            serves-sum = let a = serves-room in let b = w.count in omega arith

            due : List Cert
            due = list_under depth (leader_in n (held_of t) r) (state_of st t)

            on-next : Serving (agreed n depth) depth (whole n depth rounds k st₀ t₀) (state_of st' t') (v.out ++ due) later
            unfolding due
            on-next =
                serving-next (agreed n depth) depth (whole n depth rounds k st₀ t₀) (state_of st t) v.out l later next-on (state_of st' t') (v.out ++ due)
                (w.state ∙ ap (λ (c : Cert). list_all depth (list_under depth c (state_of st t)) (state_of st t)) same-leader)
                (ap (λ (c : Cert). v.out ++ list_under depth c (state_of st t)) same-leader)

            list-next : list' ≡ splice list₀ 0 (entries_of (v.out ++ due))
            unfolding due
            list-next =
                let a = v.long in
                let b = w.long in
                let c = serves-sum in
                let d = v.lists in
                w.entries
                ∙ ap (λ (y : List ℕ). splice y (at * 37) (entries_of due)) v.entries
                ∙ splice-next list₀ (entries_of v.out) (entries_of due) 0 (at * 37) (omega arith) (omega arith)
                ∙ ap (splice list₀ 0) (sym (entries-append v.out due))

            -- last committed rounds only rise
            rise : (i : ℕ) → get_or (lasts_of st) i 0 ≤ get_or (lasts_of st') i 0
            unfolding state_of due
            rise i =
                let e : lasts_of st' ≡ raise_all due (lasts_of st) =
                ap (λ (s : State). s.last) w.state ∙ all-last depth due (state_of st t) in
                rw e (raise-all-le due (lasts_of st) i)

            table-next : length t₀ < 256 ^ 8 → t' ≡ kept 1062 (stays_row depth (lasts_of st')) t₀
            table-next small = go v.cleared
              where
                go : ((left ≡ k) × (t ≡ t₀)) ⊎ (t ≡ kept 1062 (stays_row depth (lasts_of st)) t₀) → t' ≡ kept 1062 (stays_row depth (lasts_of st')) t₀
                go (inl y) = w.table ∙ ap (kept 1062 (stays_row depth (lasts_of st'))) y.1
                go (inr e) =
                    w.table
                    ∙ ap (kept 1062 (stays_row depth (lasts_of st'))) e
                    ∙ kept-twice 1062 (stays_row depth (lasts_of st)) (stays_row depth (lasts_of st')) t₀ (lawful-shape n t₀ ready₀.shape) small (stays-earlier depth (lasts_of st) (lasts_of st') rise)

            pub serves-next : (p' m' o' : List ℕ) → length st' ≡ length st → length t' ≡ length t → length p' ≡ length p → length m' ≡ length m → length o' ≡ length o → length list' ≡ length list
                → length t₀ < 256 ^ 8 → Serves n depth rounds k st₀ t₀ p₀ m₀ o₀ list₀ st' t' p' m' o' list' (left - 1) (at + x)
            unfolding due later
            serves-next p' m' o' es et ep em eo el small =
                let y = v.ready in
                let f = w.fewer in
                let a = v.few in
                let b = v.number in
                let c = w.count in
                let g = v.long in
                let h = w.long in
                let q = length-append v.out due in
                let u = length-append (entries_of v.out) (entries_of due) in
                record {
                  ready = record { shape = w.shape; one = y.one; few = y.few; state = es ∙ y.state; deep = y.deep; pile = omega arith; marks = omega arith; sort = omega arith };
                  out = v.out ++ due;
                  on = on-next;
                  few = omega arith;
                  number = omega arith;
                  long = ap length (entries-append v.out due) ∙ omega arith;
                  entries = list-next;
                  cleared = inr (table-next small);
                  states = es ∙ v.states;
                  tables = et ∙ v.tables;
                  piles = ep ∙ v.piles;
                  marks = em ∙ v.marks;
                  sorts = eo ∙ v.sorts;
                  lists = el ∙ v.lists;
                }
