pub mod StandLaws
