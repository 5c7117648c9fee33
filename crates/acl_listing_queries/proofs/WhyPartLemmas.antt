-- What `why` reports for a block, by what it says and by the folders on the way to it.
use Rattle.std.proofs.Common.{◌≡◌, ◌∙◌, Bool, true, cond, List, None, Some, Ok, Err, Option, ap, reverse, subst, sym, ℕ}
use Rattle.std.specs.List.{flat_map}
use Rattle.acl_access.specs.Reach.{reaches}
use Rattle.acl_reports.specs.Files.{file_of, files_of}
use Rattle.acl_listings.specs.Block.{FileValue, file_by, path_of}
use Rattle.acl_listings.specs.Faults.{IsFaultOf}
use Rattle.acl_listings.specs.declared.fault.FileFault.{FileFault}
use Rattle.acl_listings.specs.declared.fault.FileFault.TheVariants as file
use Rattle.acl_listings.proofs.PathLemmas.{path_of-file}
use Rattle.acl_bridge.specs.Files.{File}
use Rattle.acl_listing_queries.specs.Readings.{Reading, reading_of}
use Rattle.acl_listing_queries.specs.Ways.{begins_apart, chain_to, known_way, way_of}
use Rattle.acl_listing_queries.specs.WhySteps.{IsUnknown, IsWayTo}
use Rattle.acl_listing_queries.specs.WhyText.{WhyAsking, folder_text, nearest, sought_part, why_by, why_on, why_part}
use Rattle.acl_listing_queries.specs.declared.why.way.Way.{Way}

module _ (asking : WhyAsking) (earlier : List Reading) (text : List ℕ) where
  abbrev here : Reading
  here = reading_of asking.names text

  abbrev way_here : List Reading
  way_here = way_of earlier here

  module _ (said : FileValue) (reads : file_by asking.names text ≡ Ok said) where
    by_nodes : (files : Option (List FileValue)) → known_way earlier here ≡ files → why_part asking earlier text ≡ why_by asking way_here (Ok said) files
    by_nodes files known = ap (λ said. why_by asking way_here said (known_way earlier here)) reads ∙ ap (why_by asking way_here (Ok said)) known

    -- one to which no way is known
    pub part_unknown : (fault : FileFault) → IsUnknown (known_way earlier here) fault → IsFaultOf (why_part asking earlier text) fault
    part_unknown (file.Block fault) (unknown, is) = by_nodes None unknown ∙ ap Err (sym is)
    part_unknown file.Memory unknown = tt

    -- and any other
    pub part_known : (files : List FileValue) → begins_apart earlier here ≡ true → chain_to way_here here ≡ Some files → why_part asking earlier text ≡ why_on asking way_here said (Some files)
    part_known files apart known = by_nodes (Some files) (ap (λ b. cond b (chain_to way_here here) None) apart ∙ known)

    -- by what is reported of the folders, and by what decides about the file
    pub part_sought : (files : List FileValue) (reach : Bool) (folders : List ℕ) (acl : File) → begins_apart earlier here ≡ true → chain_to way_here here ≡ Some files → reach ≡ reaches (files_of asking.rules files) asking.who
        → folders ≡ flat_map (folder_text asking.rules asking.who) (reverse way_here) → acl ≡ file_of asking.rules said
        → why_part asking earlier text ≡ sought_part asking.rules asking.sought asking.who reach folders (nearest way_here) (record { path = said.path; file = acl })
    part_sought files reach folders acl apart known reach_is folders_is acl_is =
        part_known files apart known
        ∙ sym (λ i. sought_part asking.rules asking.sought asking.who (reach_is i) (folders_is i) (nearest way_here) (record { path = said.path; file = acl_is i }))

    -- the way to its path is kept
    pub way_to_it : (path : List ℕ) (way : Way) → path_of text ≡ Some path → IsWayTo asking.names path earlier way → IsWayTo asking.names said.path earlier way
    way_to_it path way is kept = subst (λ path. IsWayTo asking.names path earlier way) (same (sym is ∙ path_of-file asking.names text said reads)) kept
      where
        same : {one other : List ℕ} → Some one ≡ Some other → one ≡ other
        same is = cc
