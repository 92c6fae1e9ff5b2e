-- The laws of the checks, one for each way through. The premises are what the tests and the callees say. Assumes nothing.
use mathlib.Core.Path.{◌≡◌, refl, sym, ap, ◌∙◌}
use mathlib.Core.Bool.{Bool, true, false, not, and-false}
use mathlib.Core.List.{List, []}
use Prim.Native.Nat.{ℕ, zero, suc, ◌+◌, ◌*◌, ◌/◌, ◌≤◌, ◌<◌}
use native.Mathlib.Omega.{arith}
use lib.Dec.{eqb}
use lib.ListN.{length, get_or}
use borrow.Author.Tests.{lt-ltb, le-ltb, le-leb, lt-leb, not-true, not-false}
use Rattle.wire.specs.Items.{items, item_in, all_of}
use Rattle.wire.proofs.Lists.{item-is, item-fits, item-length, all-at}
use Rattle.config.specs.Members.{members_of, worker_count, has_worker, lawful}
use Rattle.config.specs.Committee.{valid_members, standing_of, stake_of}
use Rattle.config.specs.declared.committee.Standing.{Standing}
use Rattle.std.specs.Prelude.{Option, Some, None}
use Rattle.config.proofs.Laws.{valid, members-are, members-fit, length-members, lawful-workers, standing-below}
use Rattle.messages.specs.Header.{author_of, payload_count, payload_of, worker_in, header_shape}
use Rattle.messages.specs.Vote.{vote_author, vote_shape}
use Rattle.messages.specs.Certificate.{header_of, certificate_shape}
use Rattle.messages.proofs.Laws.{header-length, header-payload, certificate-headed}
use Rattle.checks.specs.Answers.{ensure, and_then}
use Rattle.checks.specs.Header.{has_stake, works_for, workers_known, header_checks, header_check}
use Rattle.checks.specs.Vote.{vote_checks, vote_check}
use Rattle.checks.specs.Certificate.{votes_checks, certificate_checks, certificate_check}
use Rattle.refusal.specs.Answers.{Answer}
use Rattle.refusal.specs.declared.Refusal.{Refusal}
use Rattle.std.specs.Prelude.{Ok, Err}
use Rattle.refusal.specs.declared.Refusal.TheVariants.{BadCommittee, BadShape, InvalidHeaderId, UnknownAuthority, MalformedHeader, InvalidSignature}

-- ---- workers
pub works-is : (member p : List ℕ) (w : ℕ) (b : Bool) → w ≡ worker_in p → b ≡ has_worker w member → b ≡ works_for member p
unfolding works_for
works-is member p w b e f = f ∙ rw e

pub payload-fits : (h : List ℕ) (n : ℕ) → header_shape h ≡ true → n ≡ payload_count h → 1098 + n * 36 ≤ length h
payload-fits h n s e = omega (arith, header-length h s, header-payload h s)

pub workers-are : (member h : List ℕ) (n : ℕ) (b : Bool) → n ≡ payload_count h → b ≡ all_of (works_for member) (items 36 h 1098 n) → b ≡ all_of (works_for member) (payload_of h)
unfolding payload_of
workers-are member h n b e f = f ∙ rw e

module _ (ms h a : List ℕ) (x : Option Standing) (ea : a ≡ author_of h) (e : x ≡ standing_of (members_of ms) a) where
  standing : standing_of (members_of ms) (author_of h) ≡ x
  standing = rw (← ea) (sym e)

  pub workers-stranger : x ≡ None → false ≡ workers_known (members_of ms) h
  unfolding workers_known
  workers-stranger g = sym (rw (standing ∙ g, workers_known))

  module _ (v : valid_members ms ≡ true) (m : Standing) (g : x ≡ Some m) where
    abbrev i : ℕ
    i = m.place

    below : i < length ms / 69
    below = omega (arith, standing-below (members_of ms) a m (sym e ∙ g), length-members ms)

    pub author-fits : 0 + i * 69 + 69 ≤ length ms
    author-fits = item-fits 69 ms 0 (length ms / 69) (members-fit ms (length ms / 69) refl) i below

    module _ (r : List ℕ) (q : r ≡ item_in 69 ms 0 i) where
      row : r ≡ get_or (members_of ms) i []
      row =
          q
          ∙ item-is 69 ms 0 (length ms / 69) (members-fit ms (length ms / 69) refl) i below
          ∙ ap (λ (z : List (List ℕ)). get_or z i []) (members-are ms (length ms / 69) refl)

      pub author-reach : 69 ≤ length r
      author-reach = omega (arith, ap length q, item-length 69 ms 0 (length ms / 69) (members-fit ms (length ms / 69) refl) i below)

      pub author-few : worker_count r ≤ 8
      author-few =
          lawful-workers r (rw row (all-at lawful (members_of ms) i (valid ms v).each (omega (arith, below, length-members ms))))

      pub workers-member : (b : Bool) → b ≡ all_of (works_for r) (payload_of h) → b ≡ workers_known (members_of ms) h
      unfolding workers_known
      workers-member b f = f ∙ sym (rw (standing ∙ g, workers_known, ← row))

-- ---- stake
positive : (w : ℕ) → (w ≡ 0 → ⊥) → 0 < w
positive zero z = absurd (z refl)
positive (suc w) z = omega arith

pub stake-none : (ms : List (List ℕ)) (k key : List ℕ) (w : ℕ) → k ≡ key → w ≡ stake_of ms k → w ≡ 0 → has_stake ms key ≡ false
unfolding has_stake
stake-none ms k key w e f z = le-ltb 0 (stake_of ms key) (omega (arith, ap (stake_of ms) e))

pub stake-some : (ms : List (List ℕ)) (k key : List ℕ) (w : ℕ) → k ≡ key → w ≡ stake_of ms k → (w ≡ 0 → ⊥) → has_stake ms key ≡ true
unfolding has_stake
stake-some ms k key w e f z = lt-ltb 0 (stake_of ms key) (rw (← e, ← f) (positive w z))

-- ---- a header's checks
module _ (ms : List (List ℕ)) (h : List ℕ) (id_ok sig_ok : Bool) where
  pub id_wrong : not id_ok ≡ true → (Err InvalidHeaderId) ≡ header_checks ms h id_ok sig_ok
  unfolding header_checks ensure
  id_wrong n = rw (not-true id_ok n)

  module _ (n : not id_ok ≡ false) (a : List ℕ) (w : ℕ) (ea : a ≡ author_of h) (ew : w ≡ stake_of ms a) where
    pub author-unknown : w ≡ 0 → (Err UnknownAuthority) ≡ header_checks ms h id_ok sig_ok
    unfolding header_checks ensure
    author-unknown z = rw (not-false id_ok n, stake-none ms a (author_of h) w ea ew z)

    module _ (z : w ≡ 0 → ⊥) (b : Bool) (eb : b ≡ workers_known ms h) where
      pub workers-unknown : not b ≡ true → (Err MalformedHeader) ≡ header_checks ms h id_ok sig_ok
      unfolding header_checks ensure
      workers-unknown m = rw (not-false id_ok n, stake-some ms a (author_of h) w ea ew z, sym eb ∙ not-true b m)

      module _ (m : not b ≡ false) where
        pub signature-wrong : not sig_ok ≡ true → (Err InvalidSignature) ≡ header_checks ms h id_ok sig_ok
        unfolding header_checks ensure
        signature-wrong o = rw (not-false id_ok n, stake-some ms a (author_of h) w ea ew z, sym eb ∙ not-false b m, not-true sig_ok o)

        pub header-good : not sig_ok ≡ false → Ok 0 ≡ header_checks ms h id_ok sig_ok
        unfolding header_checks ensure
        header-good o = rw (not-false id_ok n, stake-some ms a (author_of h) w ea ew z, sym eb ∙ not-false b m, not-false sig_ok o)

-- ---- a vote's
module _ (ms : List (List ℕ)) (v : List ℕ) (sig_ok : Bool) (a : List ℕ) (w : ℕ) (ea : a ≡ vote_author v) (ew : w ≡ stake_of ms a) where
  pub vote-unknown : w ≡ 0 → (Err UnknownAuthority) ≡ vote_checks ms v sig_ok
  unfolding vote_checks ensure
  vote-unknown z = rw (stake-none ms a (vote_author v) w ea ew z)

  module _ (z : w ≡ 0 → ⊥) where
    pub vote-unsigned : not sig_ok ≡ true → (Err InvalidSignature) ≡ vote_checks ms v sig_ok
    unfolding vote_checks ensure
    vote-unsigned o = rw (stake-some ms a (vote_author v) w ea ew z, not-true sig_ok o)

    pub vote-good : not sig_ok ≡ false → Ok 0 ≡ vote_checks ms v sig_ok
    unfolding vote_checks ensure
    vote-good o = rw (stake-some ms a (vote_author v) w ea ew z, not-false sig_ok o)

-- ---- 10, then 11, then what is found: ms', h', v' and c' are what the tests give back of what they are passed
bad : (t t' : Bool) (x : Answer) → t ≡ false → (Err BadCommittee) ≡ ensure t BadCommittee (ensure t' BadShape x)
unfolding ensure
bad t t' x e = rw e

misshapen : (t t' : Bool) (x : Answer) → t ≡ true → t' ≡ false → (Err BadShape) ≡ ensure t BadCommittee (ensure t' BadShape x)
unfolding ensure
misshapen t t' x e f = rw (e, f)

looked : (t t' : Bool) (r x : Answer) → t ≡ true → t' ≡ true → r ≡ x → r ≡ ensure t BadCommittee (ensure t' BadShape x)
unfolding ensure
looked t t' r x e f g = rw (e, f) g

pub is_true : (b x : Bool) → b ≡ x → not b ≡ false → x ≡ true
is_true b x e n = sym e ∙ not-false b n

valid-still : (ms ms' : List ℕ) → valid_members ms' ≡ true → ms' ≡ ms → valid_members ms ≡ true
valid-still ms ms' v m = rw (← m) v

module _ (ms h : List ℕ) (id_ok sig_ok : ℕ) where
  pub header-10 : valid_members ms ≡ false → (Err BadCommittee) ≡ header_check ms h id_ok sig_ok
  unfolding header_check
  header-10 n = bad _ _ _ n

  module _ (ms' : List ℕ) (w : valid_members ms' ≡ true) (m : ms' ≡ ms) where
    pub header-11 : header_shape h ≡ false → (Err BadShape) ≡ header_check ms h id_ok sig_ok
    unfolding header_check
    header-11 n = misshapen _ _ _ (valid-still ms ms' w m) (rw n)

    pub header-11-id : 1 < id_ok → (Err BadShape) ≡ header_check ms h id_ok sig_ok
    unfolding header_check
    header-11-id l = misshapen _ _ _ (valid-still ms ms' w m) (simp (lt-leb id_ok 1 l, and-false))

    pub header-11-signature : 1 < sig_ok → (Err BadShape) ≡ header_check ms h id_ok sig_ok
    unfolding header_check
    header-11-signature l = misshapen _ _ _ (valid-still ms ms' w m) (simp (lt-leb sig_ok 1 l, and-false))

    module _ (h' : List ℕ) (s : header_shape h' ≡ true) (e : h' ≡ h) where
      header-still : header_shape h ≡ true
      header-still = rw (← e) s

      module _ (l0 : id_ok ≤ 1) (b0 : Bool) (e0 : b0 ≡ eqb id_ok 1) where
        module _ (l1 : sig_ok ≤ 1) (b1 : Bool) (e1 : b1 ≡ eqb sig_ok 1) where
          pub header-found : (r : Answer) → r ≡ header_checks (members_of ms') h' b0 b1 → r ≡ header_check ms h id_ok sig_ok
          unfolding header_check
          header-found r f = looked _ _ r _ (valid-still ms ms' w m) (rw (header-still, le-leb id_ok 1 l0, le-leb sig_ok 1 l1)) (rw (← m, ← e, ← e0, ← e1) f)

module _ (ms v : List ℕ) (sig_ok : ℕ) where
  pub vote-10 : valid_members ms ≡ false → (Err BadCommittee) ≡ vote_check ms v sig_ok
  unfolding vote_check
  vote-10 n = bad _ _ _ n

  module _ (ms' : List ℕ) (w : valid_members ms' ≡ true) (m : ms' ≡ ms) where
    pub vote-11 : vote_shape v ≡ false → (Err BadShape) ≡ vote_check ms v sig_ok
    unfolding vote_check
    vote-11 n = misshapen _ _ _ (valid-still ms ms' w m) (rw n)

    pub vote-11-signature : 1 < sig_ok → (Err BadShape) ≡ vote_check ms v sig_ok
    unfolding vote_check
    vote-11-signature l = misshapen _ _ _ (valid-still ms ms' w m) (simp (lt-leb sig_ok 1 l, and-false))

    module _ (v' : List ℕ) (s : vote_shape v' ≡ true) (e : v' ≡ v) where
      vote-still : vote_shape v ≡ true
      vote-still = rw (← e) s

      module _ (l0 : sig_ok ≤ 1) (b0 : Bool) (e0 : b0 ≡ eqb sig_ok 1) where
        pub vote-found : (r : Answer) → r ≡ vote_checks (members_of ms') v' b0 → r ≡ vote_check ms v sig_ok
        unfolding vote_check
        vote-found r f = looked _ _ r _ (valid-still ms ms' w m) (rw (vote-still, le-leb sig_ok 1 l0)) (rw (← m, ← e, ← e0) f)

module _ (ms c : List ℕ) (id_ok sig_ok batch_ok : ℕ) where
  pub certificate-10 : valid_members ms ≡ false → (Err BadCommittee) ≡ certificate_check ms c id_ok sig_ok batch_ok
  unfolding certificate_check
  certificate-10 n = bad _ _ _ n

  module _ (ms' : List ℕ) (w : valid_members ms' ≡ true) (m : ms' ≡ ms) where
    pub certificate-11 : certificate_shape c ≡ false → (Err BadShape) ≡ certificate_check ms c id_ok sig_ok batch_ok
    unfolding certificate_check
    certificate-11 n = misshapen _ _ _ (valid-still ms ms' w m) (rw n)

    pub certificate-11-id : 1 < id_ok → (Err BadShape) ≡ certificate_check ms c id_ok sig_ok batch_ok
    unfolding certificate_check
    certificate-11-id l = misshapen _ _ _ (valid-still ms ms' w m) (simp (lt-leb id_ok 1 l, and-false))

    pub certificate-11-signature : 1 < sig_ok → (Err BadShape) ≡ certificate_check ms c id_ok sig_ok batch_ok
    unfolding certificate_check
    certificate-11-signature l = misshapen _ _ _ (valid-still ms ms' w m) (simp (lt-leb sig_ok 1 l, and-false))

    pub certificate-11-batch : 1 < batch_ok → (Err BadShape) ≡ certificate_check ms c id_ok sig_ok batch_ok
    unfolding certificate_check
    certificate-11-batch l = misshapen _ _ _ (valid-still ms ms' w m) (simp (lt-leb batch_ok 1 l, and-false))

    module _ (c' : List ℕ) (s : certificate_shape c' ≡ true) (e : c' ≡ c) where
      certificate-still : certificate_shape c ≡ true
      certificate-still = rw (← e) s

      module _ (l0 : id_ok ≤ 1) (b0 : Bool) (e0 : b0 ≡ eqb id_ok 1) where
        module _ (l1 : sig_ok ≤ 1) (b1 : Bool) (e1 : b1 ≡ eqb sig_ok 1) where
          module _ (l2 : batch_ok ≤ 1) (b2 : Bool) (e2 : b2 ≡ eqb batch_ok 1) where
            pub certificate-found : (r : Answer) → r ≡ certificate_checks (members_of ms') c' b0 b1 b2 → r ≡ certificate_check ms c id_ok sig_ok batch_ok
            unfolding certificate_check
            certificate-found r f = looked _ _ r _ (valid-still ms ms' w m) (rw (certificate-still, le-leb id_ok 1 l0, le-leb sig_ok 1 l1, le-leb batch_ok 1 l2)) (rw (← m, ← e, ← e0, ← e1, ← e2) f)

-- ---- a certificate's checks: the header's, then the votes'
pub certificate-headed-by : (c h : List ℕ) → certificate_shape c ≡ true → h ≡ header_of c → header_shape h ≡ true
certificate-headed-by c h s e = ap header_shape e ∙ certificate-headed c s

module _ (ms : List (List ℕ)) (c h : List ℕ) (id_ok sig_ok batch_ok : Bool) (a : Answer) (eh : h ≡ header_of c) (ea : a ≡ header_checks ms h id_ok sig_ok) where
  found : header_checks ms (header_of c) id_ok sig_ok ≡ a
  found = rw (← eh) (sym ea)

  pub header_refused : (r : Refusal) → a ≡ Err r → Err r ≡ certificate_checks ms c id_ok sig_ok batch_ok
  unfolding certificate_checks and_then
  header_refused r e = sym (rw (found ∙ e))

  pub header-passed : (n : ℕ) (r : Answer) → a ≡ Ok n → r ≡ votes_checks ms c batch_ok → r ≡ certificate_checks ms c id_ok sig_ok batch_ok
  unfolding certificate_checks and_then
  header-passed n r e f = f ∙ sym (rw (found ∙ e))
