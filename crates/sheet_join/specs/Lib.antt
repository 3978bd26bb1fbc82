pub mod Join
