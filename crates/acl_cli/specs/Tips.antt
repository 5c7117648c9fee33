-- What to do about a word that the parser takes for an option that there isn't.
use Rattle.std.specs.Prelude.{◌&&◌, ◌++◌, ◌∷◌, Bool, false, true, List, [], Option, Some, bytes_eq}
use Rattle.std.specs.Prelude.{codes, length, option_map, take, if◌then◌else◌}
use Rattle.std.specs.List.{find, list_any, zip}
use Rattle.clap.specs.Words.{Text}
use Rattle.acl_cli.specs.declared.word.Given.{Given}
use Rattle.acl_cli.specs.declared.word.Given.TheVariants as given
use Rattle.acl_cli.specs.declared.word.Word.{Word}

-- a word that is given so is an option with a value
abbrev pub has_value : Given → Bool
has_value given.Option = true
has_value given.RequiredOption = true
has_value given.RepeatedOption = true
has_value (given.CountOption most) = true
has_value given.Flag = false
has_value given.Word = false
has_value given.RequiredWord = false
has_value given.Words = false

abbrev pub is_named : Text → Text → Bool
is_named name text = bytes_eq text (codes "--" ++ name)

-- the text is the word: `--NAME`, an option with a value
abbrev pub is_option_of : Text → Word → Bool
is_option_of text word = has_value word.given && is_named word.name.now text

-- it is one of these
abbrev pub is_option : List Word → Text → Bool
is_option known text = list_any (is_option_of text) known

abbrev pub begins : Text → Text → Bool
begins front text = bytes_eq front (take (length front) text)

-- of two words one after the other, the second begins as what is refused does, and is the value of
-- an option
abbrev pub is_value : List Word → Text → Text × Text → Bool
is_value known refused pair = begins refused pair.1 && is_option known pair.0

-- each word, and before it the one before; before the first there is none
abbrev pub in_pairs : Text → List Text → List (Text × Text)
in_pairs before words = zip (before ∷ words) words

-- the first of these values, and its option before it
abbrev pub value_of_option : List Word → Text → List Text → Option (Text × Text)
value_of_option known refused words = find (is_value known refused) (in_pairs [] words)

-- the message, and how to write both
abbrev pub with_tip : Text → Text × Text → Text
with_tip message pair = message ++ codes "\n\n  tip: to pass '" ++ pair.1
    ++ codes "' as the value of '" ++ pair.0 ++ codes "', use '" ++ pair.0 ++ codes "=" ++ pair.1
    ++ codes "'"

-- a better message, if there is one: a long option that is refused is none's value
abbrev pub better_message : List Word → List Text → Text → Text → Option Text
better_message known words message refused = if begins (codes "--") refused then Some message
    else option_map (with_tip message) (value_of_option known refused words)
