use Rattle.std.proofs.lemmas.Result.{err_from_is_err_and}
use Rattle.aggregators.proofs.Voting.{voters-long, vote-committee, vote-shape, vote-author, vote-again, vote-full, vote-open, vote-counted}
use Rattle.aggregators.proofs.votes.count_vote.Goals as goal

pub returns-in_err-committee : goal.returns-in_err-committee
returns-in_err-committee c =
    let p = err_from_is_err_and c.from_residual.result c.from_residual.ensures.1 in
    let e = c.in_err-committee.ensures.refused in
    let f = c.in_err-committee.ensures.outside in
    rw (p.1, p.2) (search vote-committee)

pub returns-in_err-counted : goal.returns-in_err-counted
returns-in_err-counted c =
    let p = err_from_is_err_and c.from_residual-in_err-counted.result c.from_residual-in_err-counted.ensures.1 in
    let m = c.in_ok-committee.ensures.members in
    let v = c.in_ok-committee.committee.valid in
    let e = c.in_err-counted.ensures.refused in
    let f = c.in_err-counted.ensures.outside in
    rw (p.1, p.2) (search vote-shape)

pub returns-in_err-author : goal.returns-in_err-author
returns-in_err-author c =
    let p = err_from_is_err_and c.from_residual-in_err-author.result c.from_residual-in_err-author.ensures.1 in
    let m = c.in_ok-committee.ensures.members in
    let v = c.in_ok-committee.committee.valid in
    let s = c.in_ok-counted.ensures.inside in
    let t = c.in_ok-counted.ensures.bytes in
    let e = c.in_err-author.ensures.refused in
    let f = c.in_err-author.ensures.outside in
    rw (p.1, p.2) (search vote-author)

pub returns-then-has_voted : goal.returns-then-has_voted
returns-then-has_voted c =
    let m = c.in_ok-committee.ensures.members in
    let v = c.in_ok-committee.committee.valid in
    let s = c.in_ok-counted.ensures.inside in
    let t = c.in_ok-counted.ensures.bytes in
    let l = c.in_ok-author.ensures.inside in
    let k = c.in_ok-author.ensures.key in
    search vote-again

pub voter_count-requires : goal.voter_count-requires
voter_count-requires c = voters-long _ c.in_ok-counted.counted.shape

pub returns-then-voter_count-ge32 : goal.returns-then-voter_count-ge32
returns-then-voter_count-ge32 c =
    let m = c.in_ok-committee.ensures.members in
    let v = c.in_ok-committee.committee.valid in
    let s = c.in_ok-counted.ensures.inside in
    let t = c.in_ok-counted.ensures.bytes in
    let l = c.in_ok-author.ensures.inside in
    let k = c.in_ok-author.ensures.key in
    search vote-full

pub put_voter-requires : goal.put_voter-requires
put_voter-requires c =
    let m = c.in_ok-committee.ensures.members in
    let v = c.in_ok-committee.committee.valid in
    let s = c.in_ok-counted.ensures.inside in
    let t = c.in_ok-counted.ensures.bytes in
    let l = c.in_ok-author.ensures.inside in
    let k = c.in_ok-author.ensures.key in
    record { voters_value = s; voters_bound = search vote-open }

pub returns : goal.returns
returns c =
    let m = c.in_ok-committee.ensures.members in
    let v = c.in_ok-committee.committee.valid in
    let s = c.in_ok-counted.ensures.inside in
    let t = c.in_ok-counted.ensures.bytes in
    let l = c.in_ok-author.ensures.inside in
    let k = c.in_ok-author.ensures.key in
    search vote-counted
