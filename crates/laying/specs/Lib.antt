pub mod Nodes
pub mod Trees
pub mod Places
pub mod Goes
