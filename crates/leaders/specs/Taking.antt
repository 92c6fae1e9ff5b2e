-- The leaders of a commit, as the rounds that the code stores. Assumes nothing.
use Rattle.std.specs.Prelude.{ℕ, true, ◌+◌, ◌≤◌, ◌≡◌, List, [], ◌∷◌, map, reverse, length, take}
use Rattle.config.specs.Committee.{leader_place}
use Rattle.room.specs.Numbers.{rounds_of}
use Rattle.consensus.specs.Table.{Cert, cert_at, highest, pair_place}
use Rattle.consensus.specs.Leaders.{Agreed, decide, leaders, leaders_from}
use Rattle.leaders.specs.Setup.{kind_of}
use Rattle.std.specs.Prelude.{Ok}

-- the place of a round's leader; as many as are held, where there is none
unfoldable pub leader_at : Agreed → List Cert → ℕ → ℕ
leader_at a held r = pair_place (leader_place (length a.stakes) r) r held

unfoldable pub leader_in : Agreed → List Cert → ℕ → Cert
unfolding leader_at
leader_in a held r = cert_at held (leader_at a held r)

-- the place holds its round's leader, and a certificate three rounds above it opens a commit
pub record Opener (a : Agreed) (last : List ℕ) (held : List Cert) (opener : ℕ) : Type 0 where
  pub leads : opener ≡ leader_at a held (cert_at held opener).round
  pub opens : kind_of (decide a ((cert_at held opener).round + 3) last held) ≡ Ok true

-- THE LEADERS TAKEN: k rounds, the opening leader's first and falling, are those of the commit's leaders, which are served lowest first
pub record Taken (a : Agreed) (last : List ℕ) (held : List Cert) (opener k : ℕ) (rounds after : List ℕ) : Type 0 where
  pub order : leaders_from a held (cert_at held opener) (cert_at held opener ∷ []) (a.candidates (cert_at held opener).round (highest last))
      ≡ leaders (map (leader_in a held) (reverse (take k (rounds_of after))))
  pub some : 1 ≤ k
  pub most : k ≤ length held
  pub size : length after ≡ length rounds
