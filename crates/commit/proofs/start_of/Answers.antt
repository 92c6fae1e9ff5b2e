use Rattle.commit.proofs.Turning.{leader-low, start-low, start_is}
use Rattle.held.proofs.Laws.{is-told, lawful-shape, some-place}
use Rattle.commit.proofs.start_of.Goals as goal

pub unwrap-l-requires : goal.unwrap-l-requires
unwrap-l-requires c = search (is-told, leader-low)

pub digest_at-requires : goal.digest_at-requires
digest_at-requires c = search (leader-low, some-place)

pub unwrap-requires : goal.unwrap-requires
unwrap-requires c =
    let e = some-place _ _ _ c.place_of.ensures.value _ c.unwrap-l.ensures in
    search (is-told, start-low, lawful-shape)

pub returns : goal.returns
returns c =
    let e = some-place _ _ _ c.place_of.ensures.value _ c.unwrap-l.ensures in
    search (start_is, some-place, lawful-shape)
