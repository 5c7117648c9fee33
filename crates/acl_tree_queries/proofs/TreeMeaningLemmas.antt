-- What came of a tree that was to be printed.
use Rattle.std.proofs.Common.{◌≡◌, ◌≢◌, [], ℕ, List, Option, Ok, Err, ap, arith, inl, inr, refl}
use Rattle.std.specs.Io.KnownBytes.{Appends, Keeps}
use Rattle.clap.specs.Words.{Row, Text}
use Rattle.acl_names.specs.Directory.{Known}
use Rattle.acl_cli.specs.Commands.{Answer, Comes}
use Rattle.acl_cli.specs.ErrorOutput.{ErrorText}
use Rattle.acl_cli.specs.Failures.{failed_write, status_of}
use Rattle.acl_cli.specs.Output.{AppendsFront}
use Rattle.acl_cli.specs.declared.command.Ending.TheVariants.{Answered}
use Rattle.acl_cli.specs.declared.failure.Failure.{Failure}
use Rattle.acl_cli.proofs.ReportingLemmas.{Reports-nothing}
use Rattle.acl_tree.specs.Tree.{NodesUnderUmask}
use Rattle.acl_tree_queries.specs.SetupTree.{IsSetupTree, inputs_in}
use Rattle.acl_tree_queries.specs.TreeMeaning.{IsAnswerFailure, tree_meaning}

-- what a tree is refused for, or lacks, isn't wrong usage
not_two : (IsRefused : Type 0) (failure : Failure) → IsAnswerFailure IsRefused failure → status_of failure ≢ 2
not_two IsRefused failure (inl (is, refused)) two = absurd (omega (arith, ap status_of is, two))
not_two IsRefused failure (inr (inl is)) two = absurd (omega (arith, ap status_of is, two))
not_two IsRefused failure (inr (inr is)) two = absurd (omega (arith, ap status_of is, two))

module _ {I : Type 0} (IsAnswer : Known → NodesUnderUmask → List ℕ → Type 0) (IsRefused : NodesUnderUmask → Type 0)
    (bytes_of : Text → Option (List ℕ)) (input_bytes : Option (List ℕ)) (rows : List Row) (directory : Known) (tree : NodesUnderUmask)
    (given : IsSetupTree bytes_of input_bytes rows directory tree) (out out' : Option (List ℕ)) (err : ErrorText) (input input' : I)
    (untouched : inputs_in rows ≡ 0 → input' ≡ input) where
  abbrev answer : List ℕ → Answer
  answer text = record { text = text; beside = []; ending = Answered }

  -- the answer went out
  pub Comes-answered : (text : List ℕ) → IsAnswer directory tree text → Appends out out' text
      → Comes (tree_meaning IsAnswer IsRefused bytes_of input_bytes rows) (Ok Answered) out out' err err input input'
  Comes-answered text answers went = record {
    answered = record {
      answer = answer text;
      is = record { directory = directory; tree = tree; given = given; answers = answers; quiet = refl; whole = refl };
      ends = refl;
      text = went;
      beside = Reports-nothing err;
    };
    fails = tt;
    silent = tt;
    cut = tt;
    untouched = untouched;
    unread = tt;
  }

  -- it couldn't be made
  pub Comes-refused : (failure : Failure) → IsAnswerFailure (IsRefused tree) failure → Keeps out out'
      → Comes (tree_meaning IsAnswer IsRefused bytes_of input_bytes rows) (Err failure) out out' err err input input'
  Comes-refused failure failed kept = record {
    answered = tt;
    fails = inr (record { directory = directory; tree = tree; given = given; failed = failed });
    silent = λ few. (kept, refl);
    cut = inl (kept, refl);
    untouched = untouched;
    unread = λ two. absurd (not_two (IsRefused tree) failure failed two);
  }

  -- a front of it went out
  pub Comes-cut : (text : List ℕ) → IsAnswer directory tree text → AppendsFront out out' text
      → Comes (tree_meaning IsAnswer IsRefused bytes_of input_bytes rows) (Err failed_write) out out' err err input input'
  Comes-cut text answers front = record {
    answered = tt;
    fails = inr (record { directory = directory; tree = tree; given = given; failed = inr (inr refl) });
    silent = λ few. absurd (omega (arith, few));
    cut = inr (record {
      answer = answer text;
      is = record { directory = directory; tree = tree; given = given; answers = answers; quiet = refl; whole = refl };
      text = front;
      said = 0;
      beside = Reports-nothing err;
    });
    untouched = untouched;
    unread = λ two. absurd (omega (arith, two));
  }
