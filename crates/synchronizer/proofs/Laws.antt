-- The laws of `specs/Parents.antt`, `Payload.antt` and `Known.antt`. Assumes nothing.
use mathlib.Core.Path.{◌≡◌, refl, sym, ap, ◌∙◌}
use mathlib.Core.Bool.{Bool, true, false, not}
use mathlib.Core.List.{List, []}
use Prim.Native.Nat.{ℕ, ◌+◌, ◌*◌, ◌/◌, ◌≤◌}
use native.Mathlib.Omega.{arith}
use lib.Dec.{eqb, ltb}
use lib.ListN.{length}
use borrow.Author.Tests.{not-true, not-false}
use Rattle.wire.specs.Bytes.{part, alike, splice}
use Rattle.wire.specs.Items.{items, item_in, first_of, has_part, keeps, all_of, flat}
use Rattle.std.specs.Prelude.{Option, Some, None, IfSome, IfNone, is_some}
use Rattle.std.specs.Borrow.{Bor}
use Rattle.wire.proofs.Laws.{part-all, length_part}
use Rattle.wire.proofs.Lists.{found-is, found-fits, found-length}
use Rattle.table.specs.Rows.{count_of, places, shaped, rows_of}
use Rattle.table.proofs.Laws.{found-row-is}
use Rattle.genesis.specs.Genesis.{record_digest, records_of}
use Rattle.messages.specs.Header.{author_of, parent_count, payload_count, parents_of, payload_of, header_shape}
use Rattle.messages.proofs.Laws.{header-length, header-parents, header-payload}
use Rattle.synchronizer.specs.Picked.{Picked}
use Rattle.synchronizer.specs.Parents.{record_in, parent_of, lacks, missing_parents, has, delivered}
use Rattle.synchronizer.specs.Payload.{pairs_of, unpaired, missing_payload}
use Rattle.synchronizer.specs.Known.{learning}
use Rattle.std.specs.Prelude.{Ok, Err}
use Rattle.refusal.specs.declared.Refusal.TheVariants.{NoRoom}
use Rattle.synchronizer.proofs.Picking.{Picking, picking-start, picking-done}

-- ---- a parent looked up. f is what the search of genesis answered, h what that of the known table did
module _ (g k digest : List ℕ) (f : Option ℕ) (e : f ≡ first_of (has_part 36 digest) (items 68 g 0 (length g / 68)) 0) where
  in-genesis : f ≡ first_of (has_part 36 digest) (records_of g) 0
  unfolding records_of
  in-genesis = e

  pub genesis-fits : (i : ℕ) → f ≡ Some i → 0 + i * 68 + 68 ≤ length g
  genesis-fits i q = found-fits 68 (has_part 36 digest) g 0 (length g / 68) f i e q (omega arith)

  pub genesis-long : (i : ℕ) (r : List ℕ) → f ≡ Some i → r ≡ item_in 68 g 0 i → length r ≡ 68
  genesis-long i r q p = found-length 68 (has_part 36 digest) g 0 (length g / 68) f i e q (omega arith) r p

  pub parent-genesis : (i : ℕ) (r : List ℕ) → f ≡ Some i → r ≡ item_in 68 g 0 i → r ≡ parent_of (records_of g) (rows_of 68 k) digest
  unfolding parent_of record_in records_of
  parent-genesis i r q p =
      found-is 68 (has_part 36 digest) g 0 (length g / 68) f i e q (omega arith) r p ∙ sym (rw (sym e ∙ q, record_in))

  module _ (none : f ≡ None) (h : Option ℕ) (d : h ≡ first_of (has_part 36 digest) (rows_of 68 k) 0) where
    pub parent-known : (i : ℕ) (r : List ℕ) → shaped 68 k ≡ true → h ≡ Some i → r ≡ item_in 68 k 8 i → r ≡ parent_of (records_of g) (rows_of 68 k) digest
    unfolding parent_of record_in
    parent-known i r s q p = found-row-is 68 (has_part 36 digest) k h i s d q r p ∙ sym (rw (sym in-genesis ∙ none, sym d ∙ q, record_in))

    pub parent-none : h ≡ None → parent_of (records_of g) (rows_of 68 k) digest ≡ []
    unfolding parent_of record_in
    parent-none q = rw (sym in-genesis ∙ none, sym d ∙ q, record_in)

pub lacks-is : (gs ks : List (List ℕ)) (digest r : List ℕ) → r ≡ parent_of gs ks digest → eqb (length r) 0 ≡ lacks gs ks digest
unfolding lacks
lacks-is gs ks digest r e = rw e

-- a parent is missing where the look-up answers none: a record that it answers has 68 bytes
module _ (gs ks : List (List ℕ)) (digest : List ℕ) where
  pub lacks-told : (f : Option (Bor (List ℕ))) (b : Bool) → IfSome f (λ r. r.now ≡ parent_of gs ks digest) → IfNone f (parent_of gs ks digest ≡ []) → IfSome f (λ r. length r.now ≡ 68) → is_some f ≡ not b → b ≡ lacks gs ks digest
  unfolding lacks
  lacks-told (Some r) b p n l q = not-true b (sym q) ∙ sym (rw (← p, l))
  lacks-told None b p n l q = not-false b (sym q) ∙ sym (rw n)

-- ---- the parents of a header, as items
module _ (h : List ℕ) (n : ℕ) (s : header_shape h ≡ true) (e : n ≡ parent_count h) where
  pub parents-fit : 74 + n * 32 ≤ length h
  parents-fit = omega (arith, header-length h s, header-parents h s)

  pub parents-room : (out : List ℕ) → 1024 ≤ length out → n * 32 ≤ length out
  parents-room out l = omega (arith, header-parents h s)

pub parents-are : (h : List ℕ) (n : ℕ) → n ≡ parent_count h → items 32 h 74 n ≡ parents_of h
unfolding parents_of
parents-are h n e = rw e

pub missing-start : (gs ks : List (List ℕ)) (h : List ℕ) (n : ℕ) (out : List ℕ) → header_shape h ≡ true → n ≡ parent_count h → 1024 ≤ length out → Picking 32 (lacks gs ks) h 74 n out out 0 0
missing-start gs ks h n out s e l = picking-start 32 (lacks gs ks) h 74 n out (parents-fit h n s e) (parents-room h n s e out l)

pub missing-done : (gs ks : List (List ℕ)) (h : List ℕ) (n : ℕ) (out₀ out : List ℕ) (i m : ℕ) → n ≡ parent_count h → Picking 32 (lacks gs ks) h 74 n out₀ out i m → n ≤ i → Picked (missing_parents gs ks (parents_of h)) out₀ m out
unfolding missing_parents
missing-done gs ks h n out₀ out i m e s l = rw (← parents-are h n e) (picking-done 32 (lacks gs ks) h 74 n out₀ out i m s l)

-- ---- delivery
pub deliver-is : (gs ks : List (List ℕ)) (h : List ℕ) (n : ℕ) (b : Bool) → n ≡ parent_count h → b ≡ all_of (has gs ks) (items 32 h 74 n) → b ≡ delivered gs ks (parents_of h)
unfolding delivered
deliver-is gs ks h n b e q = q ∙ rw (parents-are h n e)

-- ---- payload
module _ (ps item : List ℕ) (f : Option ℕ) (e : f ≡ first_of (has_part 0 item) (items 36 ps 0 (length ps / 36)) 0) where
  pub paired : (i : ℕ) → f ≡ Some i → false ≡ unpaired (pairs_of ps) item
  unfolding unpaired pairs_of
  paired i q = sym (rw (sym e ∙ q, unpaired))

  pub not-paired : f ≡ None → true ≡ unpaired (pairs_of ps) item
  unfolding unpaired pairs_of
  not-paired q = sym (rw (sym e ∙ q, unpaired))

pub payload-are : (h : List ℕ) (n : ℕ) → n ≡ payload_count h → items 36 h 1098 n ≡ payload_of h
unfolding payload_of
payload-are h n e = rw e

pub batches-start : (test : List ℕ → Bool) (h : List ℕ) (n : ℕ) (out : List ℕ) → header_shape h ≡ true → n ≡ payload_count h → 2304 ≤ length out → Picking 36 test h 1098 n out out 0 0
batches-start test h n out s e l =
    picking-start 36 test h 1098 n out (omega (arith, header-length h s, header-payload h s)) (omega (arith, header-payload h s))

pub batches-done : (test : List ℕ → Bool) (h : List ℕ) (n : ℕ) (out₀ out : List ℕ) (i m : ℕ) → n ≡ payload_count h → Picking 36 test h 1098 n out₀ out i m → n ≤ i → Picked (keeps test (payload_of h)) out₀ m out
batches-done test h n out₀ out i m e s l = rw (← payload-are h n e) (picking-done 36 test h 1098 n out₀ out i m s l)

nothing : (out : List ℕ) → Picked [] out 0 out
unfolding flat splice
nothing out = record { count = refl; buffer = refl }

pub author-long : (h a : List ℕ) → header_shape h ≡ true → a ≡ author_of h → length a ≡ 32
unfolding author_of
author-long h a s e = ap length e ∙ length_part h 32 32 (omega (arith, header-length h s))

module _ (own : List ℕ) (pairs : List (List ℕ)) (h a : List ℕ) (b : Bool) (s : header_shape h ≡ true) (l : length own ≡ 32) (ea : a ≡ author_of h) (eb : b ≡ alike (part a 0 32) (part own 0 32)) where
  by-own : b ≡ alike (author_of h) own
  by-own = eb ∙ rw (part-all a 32 (author-long h a s ea), part-all own 32 l, ea)

  pub own-header : (out : List ℕ) → b ≡ true → Picked (missing_payload own pairs h) out 0 out
  unfolding missing_payload
  own-header out q = rw (sym by-own ∙ q, missing_payload) (nothing out)

  pub other-header : (out out' : List ℕ) (m : ℕ) → b ≡ false → Picked (keeps (unpaired pairs) (payload_of h)) out m out' → Picked (missing_payload own pairs h) out m out'
  unfolding missing_payload
  other-header out out' m q p = rw (sym by-own ∙ q, missing_payload) p

-- ---- the known table
module _ (k new digest : List ℕ) (f : Option ℕ) (d : digest ≡ record_digest new) (e : f ≡ first_of (has_part 36 digest) (rows_of 68 k) 0) where
  searched : f ≡ first_of (has_part 36 (record_digest new)) (rows_of 68 k) 0
  searched = e ∙ rw d

  pub is_known : (i : ℕ) → f ≡ Some i → Ok true ≡ learning k new
  unfolding learning
  is_known i q = sym (rw (sym searched ∙ q, learning))

  module _ (q : f ≡ None) (b : Bool) (r : b ≡ ltb (count_of k) (places 68 k)) where
    pub no_place : not b ≡ true → Err NoRoom ≡ learning k new
    unfolding learning
    no_place h = sym (rw (sym searched ∙ q, learning, sym r ∙ not-true b h, learning))

    pub is-new : not b ≡ false → Ok false ≡ learning k new
    unfolding learning
    is-new h = sym (rw (sym searched ∙ q, learning, sym r ∙ not-false b h, learning))
