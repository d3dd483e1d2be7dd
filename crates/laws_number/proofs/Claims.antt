-- The claims are met. Assumes nothing.
use Rattle.laws_number.specs.Claims.{ReadsNearest, HasShortest, OneShortest, WrittenAsSaid, NothingElse, NoneOutside, WrittenReadsBack}
use Rattle.laws_number.proofs.Reading.{read-is, read-so}
use Rattle.laws_number.proofs.Laws.{shortest-there, shortest-one, written, met-one}
use Rattle.laws_number.proofs.Back.{read-back}
use Rattle.laws_number.proofs.Written.{decimal-tiny, decimal-long}

pub reads-nearest : ReadsNearest
reads-nearest d j b h = (read-is d j b, read-so d j b h)

pub has-shortest : HasShortest
has-shortest b = shortest-there b

pub one-shortest : OneShortest
one-shortest b x y m n = shortest-one b x y m n

pub written-as-said : WrittenAsSaid
written-as-said b h = written b h

pub nothing-else : NothingElse
nothing-else b o m = met-one b o m

pub none-outside : NoneOutside
none-outside b p = (decimal-tiny b p, decimal-long b)

pub written-reads-back : WrittenReadsBack
written-reads-back b = read-back b
