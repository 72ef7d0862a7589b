-- Connections and their endpoints.
pub mod SpeakerAndEnd
pub mod OwnConnectionAlone
pub mod StandingOfConnection
pub mod NothingBeforeOpen
pub mod DisconnectIsLast
pub mod EndpointChanges
pub mod OutcomeOfReading
pub mod EndpointsStay
pub mod FramesArePassed
