-- The laws of the public writers, one for each way through. The premises are what the tests and the callees say. Assumes nothing.
use mathlib.Core.Path.{◌≡◌, refl, sym, ap, ◌∙◌}
use mathlib.Core.Bool.{Bool, true, false, not, and-false}
use mathlib.Core.List.{List}
use Prim.Native.Nat.{ℕ, ◌+◌, ◌-◌, ◌*◌, ◌≤◌, ◌<◌}
use native.Mathlib.Omega.{arith}
use lib.Dec.{leb}
use lib.ListN.{length, take, drop, length-append, length-take, length-drop}
use borrow.Author.Tests.{eq-eqb, ne_eqb, le-leb, lt-leb, leb-true, leb-false, not-true, not-false}
use borrow.Rule.Slice.PartMut.{put_mid}
use Rattle.wire.proofs.Laws.{put-mid, length-bytes}
use Rattle.messages.specs.Header.{parent_count, payload_count, lawful_round, header_shape}
use Rattle.messages.specs.Strings.{header_string, vote_string}
use Rattle.messages.specs.Answers.{fits, written_answer, written_out, Written, may_header, may_vote}
use Rattle.std.specs.Prelude.{Ok, Err}
use Rattle.refusal.specs.declared.Refusal.TheVariants.{BadShape}
use Rattle.messages.proofs.Laws.{header-length, header-parents, header-payload}
use Rattle.messages.proofs.Writing.{header-string-length}

-- ---- room
pub room-not : (out at n : ℕ) → out < at → false ≡ leb (at + n) out
room-not out at n h = sym (lt-leb (at + n) out (omega arith))

pub room-last : (out at n : ℕ) → at ≤ out → leb n (out - at) ≡ leb (at + n) out
room-last out at n h = go (leb n (out - at)) refl where
  go : (x : Bool) → leb n (out - at) ≡ x → leb n (out - at) ≡ leb (at + n) out
  go true e = e ∙ sym (le-leb (at + n) out (omega (arith, leb-true n (out - at) e)))
  go false e = e ∙ sym (lt-leb (at + n) out (omega (arith, leb-false n (out - at) e)))

pub room-yes : (out : List ℕ) (at n : ℕ) (b : Bool) → b ≡ leb (at + n) (length out) → not b ≡ false → at + n ≤ length out
room-yes out at n b e f = leb-true (at + n) (length out) (sym e ∙ not-false b f)

-- ---- refused, or written
refused : (may : Bool) (s out : List ℕ) (at : ℕ) → may ≡ false → Written may s out at (Err BadShape) out
unfolding written_answer written_out
refused may s out at e = record { answer = rw e; buffer = rw e }

done : (may : Bool) (s out y : List ℕ) (at n k : ℕ) → may ≡ true → length s ≡ n → k ≡ n → y ≡ s → Written may s out at (Ok n) (put_mid at k out y)
unfolding written_answer written_out
done may s out y at n k e l q f = record { answer = rw (e, l); buffer = rw e (put-mid out y at k (ap length f ∙ l ∙ sym q) ∙ rw f) }

-- ---- a header's
pub header-misshapen : (h out : List ℕ) (at : ℕ) → header_shape h ≡ false → Written (may_header h out at) (header_string h) out at (Err BadShape) out
unfolding may_header
header-misshapen h out at s = refused _ (header_string h) out at (rw s)

module _ (h out : List ℕ) (at : ℕ) (s : header_shape h ≡ true) (n : ℕ) (l : n ≡ length (header_string h)) where
  pub shaped-string : n ≡ 40 + payload_count h * 36 + parent_count h * 32
  shaped-string = l ∙ header-string-length h (header-length h s) (header-parents h s) (header-payload h s)

  pub shaped-few : n ≤ 3368
  shaped-few = omega (arith, shaped-string, header-parents h s, header-payload h s)

  pub header-no-room : (b : Bool) → b ≡ leb (at + n) (length out) → not b ≡ true → Written (may_header h out at) (header_string h) out at (Err BadShape) out
  unfolding may_header fits
  header-no-room b e f = refused _ (header_string h) out at (rw (s, sym l) (sym e ∙ not-true b f))

  module _ (b : Bool) (e : b ≡ leb (at + n) (length out)) (f : not b ≡ false) where
    pub header-part : length (take (at + n - at) (drop at out)) ≡ 40 + payload_count h * 36 + parent_count h * 32
    header-part = simp (length-take, length-drop) (omega (arith, room-yes out at n b e f, shaped-string))

    pub header-done : (y : List ℕ) → y ≡ header_string h → Written (may_header h out at) (header_string h) out at (Ok n) (put_mid at (at + n - at) out y)
    unfolding may_header fits
    header-done y g = done _ (header_string h) out y at n (at + n - at) (rw (s, sym l) (sym e ∙ not-false b f)) (sym l) (omega arith) g

-- ---- a vote's and a certificate's
module _ (id origin out : List ℕ) (round at : ℕ) where
  pub id-misshapen : (length id ≡ 32 → ⊥) → Written (may_vote id round origin out at) (vote_string id round origin) out at (Err BadShape) out
  unfolding may_vote
  id-misshapen f = refused _ (vote_string id round origin) out at (rw (ne_eqb (length id) 32 f))

  pub origin-misshapen : (length origin ≡ 32 → ⊥) → Written (may_vote id round origin out at) (vote_string id round origin) out at (Err BadShape) out
  unfolding may_vote
  origin-misshapen f = refused _ (vote_string id round origin) out at (simp (ne_eqb (length origin) 32 f, and-false))

  pub round-misshapen : (b : Bool) → b ≡ lawful_round round → not b ≡ true → Written (may_vote id round origin out at) (vote_string id round origin) out at (Err BadShape) out
  unfolding may_vote
  round-misshapen b e f =
      let q : lawful_round round ≡ false = sym e ∙ not-true b f in
      refused _ (vote_string id round origin) out at (simp (q, and-false))

  module _ (li : length id ≡ 32) (lo : length origin ≡ 32) where
    vote-long : length (vote_string id round origin) ≡ 72
    unfolding vote_string
    vote-long = simp (length-append, length-bytes) (omega arith)

    module _ (b : Bool) (e : b ≡ lawful_round round) (f : not b ≡ false) (b' : Bool) (e' : b' ≡ leb (at + 72) (length out)) where
      may-vote : may_vote id round origin out at ≡ b'
      unfolding may_vote fits
      may-vote =
          let q : lawful_round round ≡ true = sym e ∙ not-false b f in
          rw (eq-eqb (length id) 32 li, eq-eqb (length origin) 32 lo, q, vote-long) (sym e')

      pub vote-no-room : not b' ≡ true → Written (may_vote id round origin out at) (vote_string id round origin) out at (Err BadShape) out
      vote-no-room f' = refused _ (vote_string id round origin) out at (may-vote ∙ not-true b' f')

      module _ (f' : not b' ≡ false) where
        pub vote-done : (y : List ℕ) → y ≡ vote_string id round origin → Written (may_vote id round origin out at) (vote_string id round origin) out at (Ok 72) (put_mid at (at + 72 - at) out y)
        vote-done y g = done _ (vote_string id round origin) out y at 72 (at + 72 - at) (may-vote ∙ not-false b' f') vote-long (omega arith) g
