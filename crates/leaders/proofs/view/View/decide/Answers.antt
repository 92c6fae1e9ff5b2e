use Rattle.leaders.proofs.Deciding.{kind-even, kind-early, kind-old, kind-none, kind-empty, kind-weak, kind-alone, kind-unbroken, kind-broken}
use Rattle.held.proofs.Laws.{lawful-shape, no-place}
use Rattle.leaders.proofs.view.View.decide.Goals as goal

pub is_unbroken-requires : goal.is_unbroken-requires
is_unbroken-requires c = search lawful-shape

pub returns-then-round-ne1 : goal.returns-then-round-ne1
returns-then-round-ne1 c = search kind-even

pub returns-then-round-lt5 : goal.returns-then-round-lt5
returns-then-round-lt5 c = search kind-early

pub returns-then-round-top : goal.returns-then-round-top
returns-then-round-top c = search kind-old

pub returns-in_default : goal.returns-in_default
returns-in_default c = search (kind-none, no-place)

pub returns-then-not-has_round : goal.returns-then-not-has_round
returns-then-not-has_round c =
    let ep = c.in-Some.ensures.value in
    let hp = c.in-Some.ensures.within in
    search kind-empty

pub returns-then-not-is_supported : goal.returns-then-not-is_supported
returns-then-not-is_supported c =
    let ep = c.in-Some.ensures.value in
    let hp = c.in-Some.ensures.within in
    search kind-weak

pub returns-in_default-lowest : goal.returns-in_default-lowest
returns-in_default-lowest c =
    let ep = c.in-Some.ensures.value in
    let hp = c.in-Some.ensures.within in
    search (kind-alone, no-place)

pub returns-then-is_unbroken : goal.returns-then-is_unbroken
returns-then-is_unbroken c =
    let ep = c.in-Some.ensures.value in
    let hp = c.in-Some.ensures.within in
    let eq = rw c.in-Some-lowest.is at c.lowest_round-lowest.ensures.value in
    let hq = rw c.in-Some-lowest.is at c.lowest_round-lowest.ensures.floor in
    search kind-unbroken

pub returns : goal.returns
returns c =
    let ep = c.in-Some.ensures.value in
    let hp = c.in-Some.ensures.within in
    let eq = rw c.in-Some-lowest.is at c.lowest_round-lowest.ensures.value in
    let hq = rw c.in-Some-lowest.is at c.lowest_round-lowest.ensures.floor in
    search kind-broken
