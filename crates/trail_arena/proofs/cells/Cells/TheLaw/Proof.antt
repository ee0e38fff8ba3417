-- A `&` to a row of places holds nothing. Assumes `Logic`.
use denote.RattleType.{RattleType}
use denote.RawPtr.{RawPtr}
use denote.Param.Laws.{Laws}
use denote.Param.Shared.{copy_shared}
use denote.SharingLaws.{nothing_shr_laws}
use denote.Struct.Laws.{field_copy}
use denote.Struct.Lending.{of_Lends, Lends-nothing}
use Rattle.core.specs.contracts.marker.PhantomData as marker
use Rattle.trail_arena.specs.contracts.cells.Cells as C
use Rattle.trail_arena.proofs.cells.Cells.TheLaw.Statement.{statement}

pub shares : (K : RattleType) (L : Laws K) → statement K L
shares K L =
    of_Lends (C.struct K) (C.the_codes K.Denot K.coded (marker.the_row RawPtr).coded) (C.the_heap K) (C.the_lent K) (λ d p. nothing_shr_laws)
    (copy_shared (marker.the_field RawPtr) (field_copy (marker.the_type RawPtr) tt), tt) (λ M 𝓤 𝓛 d p. Lends-nothing 𝓛 (C.the_heap K d) (C.the_row K).lives)
