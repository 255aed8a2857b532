use Rattle.std.proofs.Common.{◌∙◌, ◌<◌, ap, sym, length, arith}
use Rattle.std.specs.Prelude.{option_and_then}
use Rattle.std.specs.Str.{chars}
use Rattle.gtm_base.specs.KeyPlaces.{kept_place}
use Rattle.gtm_base.specs.Keys.{place_of}
use Rattle.gtm_base.specs.declared.key_places.TheConstants.{MAX_SCANNED}
use Rattle.gtm_base.proofs.KeptPlaces.{kept_is, place_lacks, place_within}
use Rattle.gtm_base.proofs.keyed.Keyed.place_of.Goals as goal

pub returns-then-len-gt-MAX_SCANNED-clause-place : goal.returns-then-len-gt-MAX_SCANNED-clause-place
returns-then-len-gt-MAX_SCANNED-clause-place g c =
    let keyed = c.args.self.now in
    let key = chars c.args.key.now in
    let long : MAX_SCANNED < length keyed.pairs = omega arith in
    c.get.ensures ∙ ap (option_and_then (kept_place key)) keyed.kept
    ∙ kept_is key keyed.pairs keyed.distinct long

pub returns-then-len-gt-MAX_SCANNED-clause-within :
    goal.returns-then-len-gt-MAX_SCANNED-clause-within
returns-then-len-gt-MAX_SCANNED-clause-within g c =
    place_within (chars c.args.key.now) c.args.self.now.pairs c.get.result
    (sym (returns-then-len-gt-MAX_SCANNED-clause-place g c))

pub returns-then-len-gt-MAX_SCANNED-clause-absent :
    goal.returns-then-len-gt-MAX_SCANNED-clause-absent
returns-then-len-gt-MAX_SCANNED-clause-absent g c =
    place_lacks (chars c.args.key.now) c.args.self.now.pairs c.get.result
    (sym (returns-then-len-gt-MAX_SCANNED-clause-place g c))

pub returns-else-len-gt-MAX_SCANNED-clause-place :
    goal.returns-else-len-gt-MAX_SCANNED-clause-place
returns-else-len-gt-MAX_SCANNED-clause-place g c =
    c.scan.ensures ∙ ap (place_of (chars c.args.key.now)) c.as_slice.ensures

pub returns-else-len-gt-MAX_SCANNED-clause-within :
    goal.returns-else-len-gt-MAX_SCANNED-clause-within
returns-else-len-gt-MAX_SCANNED-clause-within g c =
    place_within (chars c.args.key.now) c.args.self.now.pairs c.scan.result
    (sym (returns-else-len-gt-MAX_SCANNED-clause-place g c))

pub returns-else-len-gt-MAX_SCANNED-clause-absent :
    goal.returns-else-len-gt-MAX_SCANNED-clause-absent
returns-else-len-gt-MAX_SCANNED-clause-absent g c =
    place_lacks (chars c.args.key.now) c.args.self.now.pairs c.scan.result
    (sym (returns-else-len-gt-MAX_SCANNED-clause-place g c))
