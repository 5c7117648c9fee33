-- Which list of either style a field spells.
use Rattle.std.specs.Prelude.{List, Option, Result, Ok, Err, codes, option_and_then}
use Rattle.clap.specs.Words.{Text, Row}
use Rattle.acl_names.specs.Pieces.{pieces}
use Rattle.acl_names.specs.ReadList.{at_most_read}
use Rattle.acl_names.specs.Steps.{◌>>=◌, or_fault}
use Rattle.acl_bridge.specs.Style.{style_of}
use Rattle.acl_bridge.specs.declared.style.Style.{Style}
use Rattle.acl_bridge.specs.declared.style.Style.TheVariants as style
use Rattle.acl_nfs4.specs.Ace.{Nfsace4}
use Rattle.acl_nfs4.specs.AceText.{piece_value}
use Rattle.acl_nfs4.specs.declared.acl.AceFault.{AceFault}
use Rattle.acl_nfs4.specs.declared.acl.AceFault.TheVariants as aces
use Rattle.acl_cli.specs.Failures.{out_of_memory}
use Rattle.acl_cli.specs.Faults.{Malformed}
use Rattle.acl_cli.specs.Fields.{given, of_word}
use Rattle.acl_cli.specs.declared.failure.Failure.{Failure}
use Rattle.acl_cli.specs.declared.failure.Failure.TheVariants.{Field}
use Rattle.acl_nfs4.specs.declared.limits.TheConstants.{MAX_ACES}
use Rattle.acl_nfs4.specs.declared.reading.PieceFault.{PieceFault}
use Rattle.acl_nfs4.specs.declared.reading.PieceFault.TheVariants as piece
use Rattle.acl_posix.specs.declared.acl_text.AclFault.TheVariants as acl
use Rattle.acl_queries.specs.AclText.{acl_of, nobody}
use Rattle.acl_bridge.specs.declared.any_acl.AnyAcl.{AnyAcl}
use Rattle.acl_bridge.specs.declared.any_acl.AnyAcl.TheVariants as list
use Rattle.acl_cli.specs.declared.field_fault.FieldFault.{FieldFault}
use Rattle.acl_cli.specs.declared.field_fault.FieldFault.TheVariants.{Acl, BadStyle}
use Rattle.acl_cli.specs.declared.field_fault.FieldFault.TheVariants.{InheritOnly}

-- a faulty piece of an NFSv4 list, as the fault of the field
abbrev pub ace_fault : PieceFault → FieldFault
ace_fault piece.Syntax = Acl acl.BadAcl
ace_fault piece.UnknownName = Acl acl.UnknownName
ace_fault piece.InheritOnly = InheritOnly

abbrev pub as_ace : Result Nfsace4 PieceFault → Result Nfsace4 FieldFault
as_ace (Ok ace) = Ok ace
as_ace (Err fault) = Err (ace_fault fault)

-- the failure of a field that isn't an NFSv4 list
abbrev pub failure_of_aces : AceFault → Failure
failure_of_aces aces.Syntax = Field (Acl acl.BadAcl)
failure_of_aces aces.UnknownName = Field (Acl acl.UnknownName)
failure_of_aces aces.TooMany = Field (Acl acl.TooMany)
failure_of_aces aces.InheritOnly = Field InheritOnly
failure_of_aces aces.Memory = out_of_memory

-- the entries of the NFSv4 list that a text spells, at most 128
abbrev pub aces_of : Text → Result (List Nfsace4) FieldFault
aces_of text = at_most_read (Acl acl.TooMany) MAX_ACES
    (λ piece. as_ace (piece_value nobody piece)) (pieces text)

-- the list of this style that a text spells
abbrev pub list_of : Style → Text → Result AnyAcl FieldFault
list_of style.Posix text = acl_of text >>= (λ acl. Ok (list.Posix acl))
list_of style.Nfs4 text = aces_of text >>= (λ aces. Ok (list.Nfs4 aces))

-- the style that a word names
abbrev pub style_given : Option Text → Result Style FieldFault
style_given word = or_fault BadStyle (option_and_then style_of word)

-- the fields of a list by name: its style, and then its text
abbrev pub list_in : Text → Text → List Row → Result AnyAcl Malformed
list_in style_name text_name rows = do
  style ← of_word style_name (codes "STYLE") style_given rows
  of_word text_name (codes "TEXT") (given (Acl acl.BadAcl) (list_of style)) rows
