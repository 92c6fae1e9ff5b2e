-- The definitions on both sides of each limit of document 01, and the strings of small messages. Assumes nothing.
use mathlib.Core.Path.{◌≡◌, refl}
use mathlib.Core.Bool.{true, false}
use mathlib.Core.List.{List, [], ◌∷◌, ◌++◌}
use Prim.Native.Nat.{ℕ}
use lib.ListN.{replicate, set, drop}
use Rattle.wire.specs.Bytes.{part, less, word, bytes, splice}
use Rattle.wire.specs.Items.{chunks, items, flat, key_of, keys, ascends, ascends_from}
use Rattle.messages.specs.Header.{author_of, round_of, parent_count, payload_count, parents_of, payload_of, digest_in, worker_in, lawful_round, header_shape}
use Rattle.messages.specs.Vote.{vote_round, vote_shape}
use Rattle.messages.specs.Certificate.{header_of, vote_count, certificate_shape}
use Rattle.messages.specs.Strings.{payload_item, header_string, vote_string}
use Rattle.messages.specs.Answers.{fits, written_answer, written_out, may_header, may_vote}
use Rattle.messages.specs.Sample.{key_with, keys_with, payload_with, header_with, vote_with, certificate_with}
use Rattle.std.specs.Prelude.{Ok}

abbrev small : List ℕ
small = header_with 1 7 (5 ∷ 6 ∷ []) 3 (258 ∷ 7 ∷ [])

abbrev ascending : List ℕ
ascending = 1 ∷ 2 ∷ 3 ∷ 4 ∷ 5 ∷ 6 ∷ 7 ∷ 8 ∷ 9 ∷ 10 ∷ 11 ∷ 12 ∷ 13 ∷ 14 ∷ 15 ∷ 16 ∷ 17 ∷ 18 ∷ 19 ∷ 20 ∷ 21 ∷ 22 ∷ 23 ∷ 24 ∷ 25 ∷ 26 ∷ 27 ∷ 28 ∷ 29 ∷ 30 ∷ 31 ∷ 32 ∷ []

pub record Shapes : Type 0 where
  pub good : header_shape small ≡ true
  pub empty : header_shape (header_with 1 1 [] 0 []) ≡ true
  pub byte-over : header_shape (small ++ (0 ∷ [])) ≡ false
  pub byte-short : header_shape (drop 1 small) ≡ false
  pub round-0 : header_shape (header_with 1 0 [] 0 []) ≡ false
  pub round-most : header_shape (header_with 1 4294967295 [] 0 []) ≡ true
  pub round-over : header_shape (header_with 1 4294967296 [] 0 []) ≡ false
  pub full : header_shape (header_with 1 1 ascending 0 (replicate 64 0)) ≡ true
  pub parents-33 : header_shape (set (header_with 1 1 ascending 200 (0 ∷ [])) 72 33) ≡ false
  pub payload-65 : header_shape (set (header_with 1 1 [] 0 (replicate 64 0)) 73 65) ≡ false
  pub parents-equal : header_shape (header_with 1 1 (5 ∷ 5 ∷ []) 0 []) ≡ false
  pub parents-falling : header_shape (header_with 1 1 (6 ∷ 5 ∷ []) 0 []) ≡ false
  pub payload-equal : header_shape (set small 1134 3) ≡ false
  pub vote : vote_shape (vote_with 1 2 7) ≡ true
  pub vote-round-0 : vote_shape (vote_with 1 2 0) ≡ false
  pub vote-cut : vote_shape (drop 1 (vote_with 1 2 7)) ≡ false
  pub votes-none : certificate_shape (certificate_with small []) ≡ true
  pub votes-64 : certificate_shape (certificate_with small (replicate 64 1)) ≡ true
  pub votes-65 : certificate_shape (set (certificate_with small []) 3434 65) ≡ false
  pub header-wrong : certificate_shape (certificate_with (header_with 1 0 [] 0 []) []) ≡ false

pub shapes : Shapes
unfolding keys_with payload_with header_with vote_with certificate_with header_shape vote_shape certificate_shape lawful_round round_of vote_round parent_count payload_count vote_count parents_of payload_of header_of key_of keys ascends ascends_from less part word bytes chunks items
shapes =
    record {
      good = refl;
      empty = refl;
      byte-over = refl;
      byte-short = refl;
      round-0 = refl;
      round-most = refl;
      round-over = refl;
      full = refl;
      parents-33 = refl;
      payload-65 = refl;
      parents-equal = refl;
      parents-falling = refl;
      payload-equal = refl;
      vote = refl;
      vote-round-0 = refl;
      vote-cut = refl;
      votes-none = refl;
      votes-64 = refl;
      votes-65 = refl;
      header-wrong = refl;
    }

pub record Texts : Type 0 where
  pub header : header_string small ≡ key_with 1 ++ ((7 ∷ 0 ∷ 0 ∷ 0 ∷ 0 ∷ 0 ∷ 0 ∷ 0 ∷ []) ++ (key_with 3 ++ ((2 ∷ 1 ∷ 0 ∷ 0 ∷ []) ++ (key_with 4 ++ ((7 ∷ 0 ∷ 0 ∷ 0 ∷ []) ++ (key_with 5 ++ key_with 6))))))
  pub vote : vote_string (key_with 9) 258 (key_with 1) ≡ key_with 9 ++ ((2 ∷ 1 ∷ 0 ∷ 0 ∷ 0 ∷ 0 ∷ 0 ∷ 0 ∷ []) ++ key_with 1)
  pub just-room : may_header small (replicate 179 0) 3 ≡ true
  pub byte-short : may_header small (replicate 178 0) 3 ≡ false
  pub far-out : may_header small (replicate 178 0) 18446744073709551615 ≡ false
  pub how-many : written_answer true (header_string small) ≡ Ok 176
  pub round-0 : may_vote (key_with 9) 0 (key_with 1) (replicate 80 0) 8 ≡ false
  pub vote-room : may_vote (key_with 9) 1 (key_with 1) (replicate 80 0) 8 ≡ true
  pub around : written_out true (1 ∷ 2 ∷ 3 ∷ 4 ∷ []) 1 (8 ∷ 9 ∷ []) ≡ 1 ∷ 8 ∷ 9 ∷ 4 ∷ []

pub texts : Texts
unfolding keys_with payload_with header_with header_string vote_string payload_item digest_in worker_in author_of fits may_header may_vote written_answer written_out splice flat header_shape lawful_round round_of parent_count payload_count parents_of payload_of key_of keys ascends ascends_from less part word bytes chunks items
texts =
    record {
      header = refl;
      vote = refl;
      just-room = refl;
      byte-short = refl;
      far-out = refl;
      how-many = refl;
      round-0 = refl;
      vote-room = refl;
      around = refl;
    }
