-- Standard output of an answer about a listing, or of part of it.
use Rattle.std.proofs.lemmas.Option.{IfSome_then}
use Rattle.acl_listings.specs.Cursor.{blocks_to_come}
use Rattle.acl_reports.specs.OutputLaws.{AnswersPrint, BegunAnswersPrintFronts}

pub answers_print : AnswersPrint
answers_print name names part stranger bytes answer answers =
    IfSome_then (blocks_to_come 1 bytes) answers (λ blocks is. is.text)

pub begun_answers_print_fronts : BegunAnswersPrintFronts
begun_answers_print_fronts name names part stranger bytes answer begins =
    IfSome_then (blocks_to_come 1 bytes) begins
    (λ blocks begun. (begun.first, begun.rest, begun.are, begun.text_is))
