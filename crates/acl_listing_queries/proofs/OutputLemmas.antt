-- Standard output of an answer of `who`, or of part of it.
use Rattle.acl_people.specs.Host.{names_of_host}
use Rattle.acl_reports.proofs.OutputLemmas.{answers_print, begun_answers_print_fronts}
use Rattle.acl_reports.specs.ListingMeaning.{bytes_named, listing_in}
use Rattle.acl_reports.specs.Strangers.{stranger_in}
use Rattle.acl_listing_queries.specs.OutputLaws.{WhoAnswersPrint, WhoBeginsPrint}
use Rattle.acl_listing_queries.specs.WhoMeaning.{asking_in}
use Rattle.acl_listing_queries.specs.WhoPart.{who_part}

pub who_answers_print : WhoAnswersPrint
who_answers_print bytes_of input rows answer (asked, is) = (
  asked,
  answers_print (listing_in rows) (names_of_host asked.host) (who_part (asking_in rows asked))
      (stranger_in asked.host) (bytes_named bytes_of input (listing_in rows)) answer is,
)

pub who_begins_print : WhoBeginsPrint
who_begins_print bytes_of input rows answer (asked, is) = (
  asked,
  begun_answers_print_fronts (listing_in rows) (names_of_host asked.host)
      (who_part (asking_in rows asked)) (stranger_in asked.host)
      (bytes_named bytes_of input (listing_in rows)) answer is,
)
